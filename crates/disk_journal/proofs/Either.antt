-- A file has bodies, or it is damaged.
use Rattle.std.proofs.Common.{◌≡◌, ◌≤◌, inl, inr, ℕ, zero, suc, List, [], ◌∷◌, ◌++◌, length, take, drop, refl, sym, ◌∙◌, ap, arith, append_assoc, length-append}
use Rattle.std.proofs.lemmas.List.{append-nil, take-append-drop}
use Rattle.disk_journal.specs.declared.header.Heading.{Heading}
use Rattle.disk_journal.specs.GateFile.{header, header_length, open_record, open_records, HaveLengths, HasBodies, BeginsWithRecord, IsDamagedAt}
use Rattle.disk_journal.proofs.Appends.{have_lengths_push, open_records_push}

-- whole records with these bodies, a gate, and bytes behind it
record StandsAt (heading : Heading) (file : List ℕ) (bodies : List (List ℕ)) (gate : ℕ) (behind : List ℕ) : Type 0 where
  lengths : HaveLengths bodies
  content : file ≡ header heading ++ open_records bodies ++ gate ∷ behind

-- so it is one record further, and fewer bytes are left
record StandsBeyond (heading : Heading) (file behind : List ℕ) : Type 0 where
  bodies : List (List ℕ)
  gate : ℕ
  rest : List ℕ
  stands : StandsAt heading file bodies gate rest
  fewer : suc (length rest) ≤ length behind

beyond : (heading : Heading) (file : List ℕ) (bodies : List (List ℕ)) (behind : List ℕ) → StandsAt heading file bodies 1 behind → BeginsWithRecord (1 ∷ behind) → StandsBeyond heading file behind
beyond heading file bodies behind at begins =
    let front = header heading ++ open_records bodies in
    let next : file ≡ header heading ++ open_records (bodies ++ begins.body ∷ []) ++ begins.gate ∷ begins.behind =
    at.content ∙ ap (λ l. front ++ l) begins.content ∙ sym (append_assoc front (open_record begins.body) (begins.gate ∷ begins.behind))
    ∙ ap (λ l. l ++ begins.gate ∷ begins.behind) (append_assoc (header heading) (open_records bodies) (open_record begins.body) ∙ ap (λ l. header heading ++ l) (sym (open_records_push bodies begins.body))) in
    record {
      bodies = bodies ++ begins.body ∷ [];
      gate = begins.gate;
      rest = begins.behind;
      stands = record { lengths = have_lengths_push bodies begins.body at.lengths begins.lengths; content = next };
      fewer = omega (arith, ap length begins.content, length-append (open_record begins.body) (begins.gate ∷ begins.behind));
    }

module _ (heading : Heading) (file : List ℕ) (has_none : (bodies : List (List ℕ)) → HasBodies heading bodies file → ⊥) (is_whole : (at : ℕ) → IsDamagedAt heading file at → ⊥) where
  -- it ends at a gate that isn't open, or at one behind which no whole record stands
  ends : (bodies : List (List ℕ)) (gate : ℕ) (behind : List ℕ) → StandsAt heading file bodies gate behind → (StandsBeyond heading file behind → ⊥) → ⊥
  ends bodies gate behind at no_more =
      let closed : gate ≡ 1 → ⊥ = λ opened.
      let here : StandsAt heading file bodies 1 behind = record { lengths = at.lengths; content = at.content ∙ ap (λ g. header heading ++ open_records bodies ++ g ∷ behind) opened } in
      is_whole _ (inr (inr (record { bodies = bodies; behind = behind; lengths = at.lengths; content = here.content; place = refl; cut = λ begins. no_more (beyond heading file bodies behind here begins) }))) in
      has_none bodies (record {
        gate = gate;
        behind = behind;
        closed = closed;
        lengths = at.lengths;
        content = at.content ∙ sym (append_assoc (header heading ++ open_records bodies) (gate ∷ []) behind);
      })

  walk : (most : ℕ) (bodies : List (List ℕ)) (gate : ℕ) (behind : List ℕ) → length behind ≤ most → StandsAt heading file bodies gate behind → ⊥
  walk zero bodies gate behind within at = ends bodies gate behind at (λ more. omega (arith, within, more.fewer))
  walk (suc most) bodies gate behind within at = ends bodies gate behind at (λ more. walk most more.bodies more.gate more.rest (omega (arith, within, more.fewer)) more.stands)

  behind_header : (rest : List ℕ) → file ≡ header heading ++ rest → ⊥
  behind_header [] is = is_whole 16 (inr (inl (refl, is ∙ append-nil (header heading))))
  behind_header (gate ∷ behind) is = walk (length behind) [] gate behind (omega arith) (record { lengths = tt; content = is ∙ ap (λ l. l ++ gate ∷ behind) (sym (append-nil (header heading))) })

  pub bodies_or_damage : ⊥
  bodies_or_damage =
      let other : take header_length file ≡ header heading → ⊥ = λ same. behind_header (drop 16 file) (sym (take-append-drop 16 file) ∙ ap (λ l. l ++ drop 16 file) same) in
      is_whole 0 (inl (refl, other))
