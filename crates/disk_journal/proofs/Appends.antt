-- What a crash leaves in each of the two steps of an append.
use Rattle.std.proofs.Common.{◌≡◌, ◌<◌, ◌≤◌, ◌+◌, ◌-◌, ◌^◌, inl, inr, ℕ, min, List, [], ◌∷◌, ◌++◌, length, take, drop, get_or, Option, Some, None, refl, sym, ◌∙◌, ap, subst, arith, append_assoc, length-append}
use Rattle.std.specs.Int.{to_be_bytes, w64}
use Rattle.std.proofs.lemmas.Bool.{cases_eq}
use Rattle.std.proofs.lemmas.Grind.{common_steps, flat_map-append}
use Rattle.std.proofs.lemmas.List.{append-nil, take-append-drop, take_at, drop_at, drop_more, take_all, drop_all, length-take}
use Rattle.edge_traits.specs.Disk.{Image, overwritten, Torn, Only, MayFollow}
use Rattle.disk_journal.specs.declared.header.Heading.{Heading}
use Rattle.disk_journal.specs.GateFile.{header, open_record, open_records, gate_file, HaveLengths, HasOldOrNew}
use Rattle.disk_journal.specs.Appending.{shut_record, IsRecordOf, IsAtEnd}

length_overwritten : (old bytes : List ℕ) (at : ℕ) → at ≤ length old → at + length bytes ≤ length (overwritten old at bytes)
length_overwritten old bytes at within = grind (arith, common_steps)

-- the gate before the end stands within the file once the record is written
pub gate_within : (told now : Option Image) (file end : ℕ) (bytes : List ℕ) (after : Image) → (told ≡ None → now ≡ None) → ((files : Image) → told ≡ Some files → end ≤ length (files file))
    → ((files after : Image) → told ≡ Some files → now ≡ Some after → after file ≡ overwritten (files file) end bytes) → now ≡ Some after → end - 1 ≤ length (after file)
gate_within None now file end bytes after untold within written is = (let none = untold refl in absurd (cc))
gate_within (Some files) now file end bytes after untold within written is =
    omega (arith, ap length (written files after refl is), length_overwritten (files file) bytes end (within files refl))

pub have_lengths_push : (bodies : List (List ℕ)) (body : List ℕ) → HaveLengths bodies → length body < 2 ^ 64 → HaveLengths (bodies ++ body ∷ [])
have_lengths_push [] body have short = (short, tt)
have_lengths_push (b ∷ bodies) body have short = (have.0, have_lengths_push bodies body have.1 short)

pub open_records_push : (bodies : List (List ℕ)) (body : List ℕ) → open_records (bodies ++ body ∷ []) ≡ open_records bodies ++ open_record body
open_records_push bodies body = flat_map-append open_record bodies (body ∷ []) ∙ ap (λ l. open_records bodies ++ l) (append-nil (open_record body))

-- bytes behind the end
written_behind : (file bytes : List ℕ) (end : ℕ) → end ≡ length file → overwritten file end bytes ≡ file ++ bytes
written_behind file bytes end is =
    ap (λ l. l ++ bytes ++ drop (end + length bytes) file) (take_all end file (omega (arith, is)))
    ∙ ap (λ l. file ++ bytes ++ l) (drop_all (end + length bytes) file (omega (arith, is)))
    ∙ append-nil (file ++ bytes)

-- bytes in place of what was cut off
pub written_anew : (file old now bytes whole : List ℕ) → old ≡ [] → now ≡ overwritten old 0 bytes → bytes ≡ file → file ≡ whole → now ≡ whole
written_anew file old now bytes whole none is same_bytes same = is ∙ ap (λ l. overwritten l 0 bytes) none ∙ written_behind [] bytes 0 refl ∙ same_bytes ∙ same

torn_behind : (file c : List ℕ) (end n : ℕ) → end ≡ length file → Torn end n file c → c ≡ file ++ drop end c
torn_behind file c end n is torn =
    let least : min end (length file) ≡ end = omega (arith, is) in
    let before : take end c ≡ file = ap (λ k. take k c) (sym least) ∙ torn.before ∙ take_all end file (omega (arith, is)) in
    sym (take-append-drop end c) ∙ ap (λ l. l ++ drop end c) before

-- a piece behind what is done
pub put_behind : (old done piece : List ℕ) (at : ℕ) → take at old ≡ done → at + length piece ≤ length old → take (at + length piece) (overwritten old at piece) ≡ done ++ piece
put_behind old done piece at is within =
    take_at (take at old ++ piece) (drop (at + length piece) old) (at + length piece) (omega (arith, length-append (take at old) piece, length-take at old)) ∙ ap (λ l. l ++ piece) is

pub filled : (b b1 b2 b3 body : List ℕ) → length body + 9 ≤ length b → b1 ≡ overwritten b 0 (to_be_bytes w64 (length body)) → length b1 ≡ length b → b2 ≡ overwritten b1 8 body → length b2 ≡ length b1
    → b3 ≡ overwritten b2 (8 + length body) (0 ∷ []) → take (length body + 9) b3 ≡ shut_record body
filled b b1 b2 b3 body within is1 len1 is2 len2 is3 =
    let word = to_be_bytes w64 (length body) in
    let one : take 8 b1 ≡ word = ap (take 8) is1 ∙ put_behind b [] word 0 refl (omega (arith, within)) in
    let two : take (8 + length body) b2 ≡ word ++ body = ap (take (8 + length body)) is2 ∙ put_behind b1 word body 8 one (omega (arith, within, len1)) in
    let size : length body + 9 ≡ (8 + length body) + 1 = omega arith in
    ap (λ k. take k b3) size ∙ ap (take ((8 + length body) + 1)) is3 ∙ put_behind b2 (word ++ body) (0 ∷ []) (8 + length body) two (omega (arith, within, len1, len2))

-- one byte in the middle
behind_gate : (front rest : List ℕ) (gate at : ℕ) → length front ≡ at → drop (at + 1) (front ++ gate ∷ rest) ≡ rest
behind_gate front rest gate at is =
    ap (drop (at + 1)) (sym (append_assoc front (gate ∷ []) rest)) ∙ drop_at (front ++ gate ∷ []) rest (at + 1) (omega (arith, is, length-append front (gate ∷ [])))

written_gate : (front rest : List ℕ) (gate opened at : ℕ) → length front ≡ at → overwritten (front ++ gate ∷ rest) at (opened ∷ []) ≡ front ++ opened ∷ rest
written_gate front rest gate opened at is =
    ap (λ l. l ++ (opened ∷ []) ++ drop (at + 1) (front ++ gate ∷ rest)) (take_at front (gate ∷ rest) at is)
    ∙ ap (λ l. front ++ (opened ∷ []) ++ l) (behind_gate front rest gate at is)
    ∙ append_assoc front (opened ∷ []) rest

torn_gate : (front rest c : List ℕ) (gate at : ℕ) → length front ≡ at → Torn at 1 (front ++ gate ∷ rest) c → c ≡ front ++ get_or c at 0 ∷ rest
torn_gate front rest c gate at is torn =
    let size : length (front ++ gate ∷ rest) ≡ length front + (length rest + 1) = omega (arith, length-append front (gate ∷ rest)) in
    let least : min at (length (front ++ gate ∷ rest)) ≡ at = omega (arith, is, size) in
    let before : take at c ≡ front = ap (λ k. take k c) (sym least) ∙ torn.before ∙ take_at front (gate ∷ rest) at is in
    let behind : drop at c ≡ get_or c at 0 ∷ rest = drop_more c at 0 (omega (arith, is, size, torn.no_shorter)) ∙ ap (λ l. get_or c at 0 ∷ l) (torn.behind ∙ behind_gate front rest gate at is) in
    sym (take-append-drop at c) ∙ ap (λ l. l ++ drop at c) before ∙ ap (λ l. front ++ l) behind

-- the record counts where its gate is open
record_counts : (heading : Heading) (bodies : List (List ℕ)) (body : List ℕ) → header heading ++ open_records bodies ++ 1 ∷ shut_record body ≡ gate_file heading (bodies ++ body ∷ []) 0
record_counts heading bodies body =
    let front = header heading ++ open_records bodies in
    let record_then_gate : 1 ∷ shut_record body ≡ open_record body ++ 0 ∷ [] = refl in
    let all : header heading ++ open_records (bodies ++ body ∷ []) ≡ front ++ open_record body =
    ap (λ l. header heading ++ l) (open_records_push bodies body) ∙ sym (append_assoc (header heading) (open_records bodies) (open_record body)) in
    ap (λ l. front ++ l) record_then_gate ∙ sym (append_assoc front (open_record body) (0 ∷ [])) ∙ ap (λ l. l ++ 0 ∷ []) (sym all)

module _ (heading : Heading) (end : ℕ) (bodies : List (List ℕ)) (may_leave : List ℕ → Type 0) (file : List ℕ) (at_end : IsAtEnd heading bodies end may_leave file) (body bytes : List ℕ) (is_record : IsRecordOf body bytes) where
  abbrev front : List ℕ
  front = header heading ++ open_records bodies

  size : length front ≡ end - 1
  size = omega (arith, at_end.place, ap length at_end.content, length-append front (at_end.gate ∷ []))

  is_staged : (mid : List ℕ) → mid ≡ overwritten file end bytes → mid ≡ front ++ at_end.gate ∷ shut_record body
  is_staged mid is =
      is ∙ written_behind file bytes end at_end.place ∙ ap (λ l. l ++ bytes) at_end.content ∙ ap (λ l. front ++ at_end.gate ∷ [] ++ l) is_record.content
      ∙ append_assoc front (at_end.gate ∷ []) (shut_record body)

  -- what the two steps make
  pub appended : (mid after : List ℕ) → mid ≡ overwritten file end bytes → after ≡ overwritten mid (end - 1) (1 ∷ []) → after ≡ gate_file heading (bodies ++ body ∷ []) 0
  appended mid after staged opened =
      opened ∙ ap (λ l. overwritten l (end - 1) (1 ∷ [])) (is_staged mid staged) ∙ written_gate front (shut_record body) at_end.gate 1 (end - 1) size ∙ record_counts heading bodies body

  -- a crash in the first leaves the old bodies
  pub first_leaves : (c : List ℕ) → MayFollow (Torn end (length bytes)) may_leave c → HasOldOrNew heading bodies body c
  first_leaves c left =
      let torn = subst (λ d. Torn end (length bytes) d c) (at_end.durable left.0 left.1) left.2 in
      inl (record { gate = at_end.gate; behind = drop end c; closed = at_end.closed; lengths = at_end.lengths; content = torn_behind file c end (length bytes) at_end.place torn ∙ ap (λ l. l ++ drop end c) at_end.content })

  opened_or_not : (gate : ℕ) → HasOldOrNew heading bodies body (front ++ gate ∷ shut_record body)
  opened_or_not gate = elim (cases_eq gate 1) [
    | inl is_open ↦ inr (record { gate = 0; behind = []; closed = omega arith; lengths = have_lengths_push bodies body at_end.lengths is_record.short; content = ap (λ g. front ++ g ∷ shut_record body) is_open ∙ record_counts heading bodies body ∙ sym (append-nil (gate_file heading (bodies ++ body ∷ []) 0)) })
    | inr shut ↦ inl (record { gate = gate; behind = shut_record body; closed = shut; lengths = at_end.lengths; content = sym (append_assoc front (gate ∷ []) (shut_record body)) })
  ]

  -- one in the second leaves these and the new one, or without it
  pub second_leaves : (mid : List ℕ) (may_leave_mid : List ℕ → Type 0) → mid ≡ overwritten file end bytes → Only mid may_leave_mid → (c : List ℕ) → MayFollow (Torn (end - 1) 1) may_leave_mid c → HasOldOrNew heading bodies body c
  second_leaves mid may_leave_mid staged only c left =
      let torn = subst (λ d. Torn (end - 1) 1 d c) (only left.0 left.1 ∙ is_staged mid staged) left.2 in
      subst (HasOldOrNew heading bodies body) (sym (torn_gate front (shut_record body) c at_end.gate (end - 1) size torn)) (opened_or_not (get_or c (end - 1) 0))
