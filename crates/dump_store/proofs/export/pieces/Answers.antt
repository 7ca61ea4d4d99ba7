use Rattle.std.proofs.Common.{◌∙◌, ◌++◌, ◌∷◌, ℕ, List, codes, decimal, sym, ap}
use Rattle.std.specs.List.{flat_map}
use Rattle.base_types.specs.JsonText.{escaped, quoted}
use Rattle.dump_store.proofs.Plain.{quoted_then}
use Rattle.dump_store.proofs.export.pieces.Goals as goal

pub returns : goal.returns
returns c =
    let d = c.args.dump.now in
    let between : List ℕ → List ℕ = λ last. codes ",\"code\":" ++ (decimal d.note.code ++ (codes ",\"message\":" ++ (d.message.body ++ (codes ",\"moment\":" ++ (decimal d.moment.0
    ++ (codes ",\"no\":" ++ (decimal d.no ++ (codes ",\"note\":" ++ last)))))))) in
    let end = codes "}\n" in
    rw (c.bytes.ensures.bytes, c.bytes-2.ensures, c.bytes-3.ensures) (sym (ap (λ (l : List ℕ). codes "{\"bot\":" ++ l) (quoted_then d.bot (between (quoted d.note.text ++ end)))
    ∙ ap (λ (l : List ℕ). codes "{\"bot\":" ++ 34 ∷ (flat_map escaped d.bot ++ 34 ∷ between l)) (quoted_then d.note.text end)))
