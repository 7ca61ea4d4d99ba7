-- A header that is repeated, at an offset behind the feed's start.
use Rattle.std.proofs.Common.{◌≡◌, ◌≢◌, ℕ, Bool, true, false, ◌&&◌, ◌<◌, Option, Some, None, List, [], length, nat_lt, refl, sym, ap, ◌∙◌, arith, if◌then◌else◌}
use Rattle.std.proofs.lemmas.Bool.{lt-leb, lt-ltb}
use Rattle.base_types.specs.Lines.{first_line}
use Rattle.report_cut.specs.Cutter.{Cutting}
use Rattle.report_cut.specs.Laws.{beginning}
use Rattle.report_cut.specs.Pieces.{Long, longest_line, next, next_under}
use Rattle.report_cut.specs.declared.piece.CutRule.{CutRule}

-- a header that is too long comes first, unless the feed ends there
pub long_header : (rule : CutRule) (feed : List ℕ) (at : ℕ) → rule.replicate ≡ true → at < length feed → longest_line < length (first_line feed) → next rule feed at ≡ Long 0
long_header rule feed at headed there long =
    ap (λ (header : List ℕ). next_under rule header feed at) (ap (λ (b : Bool). if b then first_line feed else []) headed) ∙ rw (lt-leb (length feed) at there, lt-ltb longest_line (length (first_line feed)) long) refl

-- a cutter with the feed's first line stands at its beginning
pub headed_beginning : (rule : CutRule) (feed header : List ℕ) (at : ℕ) → rule.replicate ≡ true → at ≢ 0 → header ≡ first_line feed
    → ◌≡◌ {A = Cutting} (record { rule = rule; header = Some header; at = at; held = []; long = None; ended = false }) (beginning rule feed at)
headed_beginning rule feed header at headed behind is = ap make (ap Some is ∙ sym chosen)
  where
    make : Option (List ℕ) → Cutting
    make h = record { rule = rule; header = h; at = at; held = []; long = None; ended = false }

    chosen : (if rule.replicate && nat_lt 0 at then Some (first_line feed) else None) ≡ Some (first_line feed)
    chosen = rw (headed, lt-ltb 0 at (omega (arith, behind))) refl
