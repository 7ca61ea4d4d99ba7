use Rattle.std.proofs.Common.{◌≡◌, List, ℕ, Bor, Option, Some, None, option_map, is_some, option_and_then, refl, sym, ap, ◌∙◌}
use Rattle.serde_json.specs.Find.{as_str}
use Rattle.event_model.proofs.TreeLemmas.{lexeme_of_one, no_lexeme}
use Rattle.runtime_text.proofs.object.is_number.Goals as goal

-- a text is there where what it points to is
seen : (o : Option (Bor (List ℕ))) → is_some o ≡ is_some (option_map (λ (s : Bor (List ℕ)). s.now) o)
seen None = refl
seen (Some s) = refl

pub returns-then-len-ne1 : goal.returns-then-len-ne1
returns-then-len-ne1 c = ap is_some (no_lexeme c.args.members.now.entries (λ one. c.if-len-ne1.true (c.len.ensures.len ∙ one)))

pub returns-in-Some : goal.returns-in-Some
returns-in-Some c =
    c.is_some.ensures ∙ seen c.as_str.result
    ∙ ap is_some (c.as_str.ensures ∙ ap (option_and_then as_str) c.in-Some.ensures
    ∙ lexeme_of_one c.args.members.now.entries (sym c.len.ensures.len ∙ c.if-len-ne1.false))

pub returns-in-None : goal.returns-in-None
returns-in-None c =
    ap is_some (ap (option_and_then as_str) c.in-None.ensures
    ∙ lexeme_of_one c.args.members.now.entries (sym c.len.ensures.len ∙ c.if-len-ne1.false))
