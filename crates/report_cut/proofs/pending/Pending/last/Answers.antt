use Rattle.std.proofs.Common.{◌≡◌, ◌+◌, List, [], ◌∷◌, ◌++◌, false, take, drop, sym, ap, ◌∙◌, subst, arith}
use Rattle.report_cut.specs.Cutter.{CutsAll}
use Rattle.report_cut.specs.Pending.{cutting_of}
use Rattle.report_cut.specs.declared.piece.Cut.{Cut}
use Rattle.report_cut.proofs.Last.{last_cut, last_some}
use Rattle.report_cut.proofs.pending.Pending.last.Goals as goal

pub returns : goal.returns
returns c =
    let p = c.args.self.now in
    let one = λ (h l : List _) (n : _). let cuts : List Cut = record { piece = h ++ l; upto = p.at + n } ∷ [] in cuts in
    let cuts : c.hand_out.new.cuts ≡ last_cut p ∷ [] =
    c.in_ok-hand_out.ensures ∙ ap (λ cs. cs ++ one c.split_at.result.0.now c.split_at.result.1.now c.held_len-held.result) c.new-cuts.ensures
    ∙ ap (λ h. one h c.split_at.result.1.now c.held_len-held.result) (c.split_at.ensures.front ∙ ap (take p.head) c.deref.ensures.value)
    ∙ ap (λ l. one (take p.head p.bytes.items) l c.held_len-held.result) (c.split_at.ensures.back ∙ ap (drop p.head) c.deref.ensures.value)
    ∙ ap (one (take p.head p.bytes.items) (drop p.head p.bytes.items)) c.held_len-held.ensures in
    subst (CutsAll (cutting_of p false)) (sym cuts) (last_some p c.requires.sound (omega (arith, c.held_len-held.ensures)))
