-- The reads of a line, one after the other.
use Rattle.std.proofs.Common.{◌≡◌, ℕ, List, [], Option, None, Some, true, false, refl, sym, ap, ◌∙◌}
use Rattle.csv.specs.Machine.{Read, next_record}
use Rattle.csv.specs.Reading.{Reached, ReadRecord, source_of}
use Rattle.csv.specs.declared.parser.Config.{Config}
use Rattle.csv.specs.declared.parser.State.TheVariants as st
use Rattle.csv.specs.declared.reader.Reader.{Reader}
use Rattle.csv.proofs.ReadFacts.{rows-end, rows-more}
use Rattle.csv_line.specs.Line.{if_last, alone}

module _ {R : Type 0} (rem : R → Option (List ℕ)) (a b : Reader R) (cfg : Config) (xs : List ℕ) (config : a.config ≡ cfg) (start : a.state ≡ st.StartRecord) (source : source_of rem a ≡ Some xs) where
  pub none : (f : List (List ℕ)) → ReadRecord rem a b false f → alone cfg (next_record cfg st.StartRecord [] [] xs) ≡ None
  none f r = ap (alone cfg) (ap (λ s. next_record cfg s [] [] xs) (sym start) ∙ rows-end rem a b f cfg xs config source r)

  -- the first record, and where the reader then is
  first : (f : List (List ℕ)) → ReadRecord rem a b true f
      → (z : List ℕ) × (source_of rem b ≡ Some z) × ((p : Read) × (next_record cfg st.StartRecord [] [] xs ≡ Some p) × (f ≡ p.0) × ((p.1 ≡ b.state) × (p.2 ≡ z)))
  unfolding Reached
  first f r = rows-more rem a b f cfg st.StartRecord xs xs [] config source (sym start, refl) r

  pub several : (c : Reader R) (f g : List (List ℕ)) → ReadRecord rem a b true f → ReadRecord rem b c true g → alone cfg (next_record cfg st.StartRecord [] [] xs) ≡ None
  unfolding Reached
  several c f g r q =
      let t = first f r in
      let p = t.2.0 in
      let again = rows-more rem b c g cfg b.state t.0 t.0 [] (r.2 ∙ config) t.1 (refl, refl) q in
      let here : next_record cfg p.1 [] [] p.2 ≡ next_record cfg b.state [] [] t.0 = λ i. next_record cfg (t.2.3.0 i) [] [] (t.2.3.1 i) in
      ap (alone cfg) t.2.1 ∙ ap (if_last p.0) (here ∙ again.2.1)

  pub only : (c : Reader R) (f g : List (List ℕ)) → ReadRecord rem a b true f → ReadRecord rem b c false g → alone cfg (next_record cfg st.StartRecord [] [] xs) ≡ Some f
  only c f g r q =
      let t = first f r in
      let p = t.2.0 in
      let here : next_record cfg p.1 [] [] p.2 ≡ next_record cfg b.state [] [] t.0 = λ i. next_record cfg (t.2.3.0 i) [] [] (t.2.3.1 i) in
      ap (alone cfg) t.2.1 ∙ (ap (if_last p.0) (here ∙ rows-end rem b c g cfg t.0 (r.2 ∙ config) t.1 q) ∙ ap Some (sym t.2.2))
