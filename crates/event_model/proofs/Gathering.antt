-- Leaves that were added, one after the other.
use Rattle.std.proofs.Common.{◌≡◌, ℕ, List, [], ◌∷◌, ◌++◌, reverse, take, length, string_bytes, refl, sym, ap, subst, ◌∙◌, append_assoc}
use Rattle.std.proofs.Math.Seq.{take-append_seam}
use Rattle.std.proofs.lemmas.List.{append-nil, reverse-append}
use Rattle.std.specs.FinMap.{empty, insert, from_entries}
use Rattle.serde_json.specs.Data.{Data}
use Rattle.serde_json.specs.View.{view, members_view}
use Rattle.field_types.specs.declared.value.Value.{Value}
use Rattle.event_model.specs.Fields.{FieldMap}
use Rattle.event_model.specs.Gathered.{put_pairs, Gathers, IsBest}
use Rattle.event_model.specs.Lenient.{leaves, leaves_at, leaves_in, leaves_of, set_all, member_name, pairs_of, bad_names, with_part, with_bad, part_of}
use Rattle.event_model.specs.declared.leaves.Found.{Found}
use Rattle.event_model.specs.declared.part.Part.{Part}
use Rattle.event_model.specs.declared.part.Part.TheVariants.{Nothing, Set, Bad}
use Rattle.event_model.proofs.TreeLemmas.{Entry}

abbrev pub Leaves : Type 0
Leaves = List (List ℕ × Data)

part_front : (key : List ℕ) (p : Part) (a b : List (List ℕ × Value)) → with_part key p (a ++ b) ≡ with_part key p a ++ b
part_front key Nothing a b = refl
part_front key (Set v) a b = refl
part_front key Bad a b = refl

bad_front : (key : List ℕ) (p : Part) (a b : List (List ℕ)) → with_bad key p (a ++ b) ≡ with_bad key p a ++ b
bad_front key Nothing a b = refl
bad_front key (Set v) a b = refl
bad_front key Bad a b = refl

pub pairs_of-append : (a b : Leaves) → pairs_of (a ++ b) ≡ pairs_of a ++ pairs_of b
pairs_of-append [] b = refl
pairs_of-append (leaf ∷ a) b = ap (with_part leaf.0 (part_of leaf)) (pairs_of-append a b) ∙ part_front leaf.0 (part_of leaf) (pairs_of a) (pairs_of b)

pub bad_names-append : (a b : Leaves) → bad_names (a ++ b) ≡ bad_names a ++ bad_names b
bad_names-append [] b = refl
bad_names-append (leaf ∷ a) b = ap (with_bad leaf.0 (part_of leaf)) (bad_names-append a b) ∙ bad_front leaf.0 (part_of leaf) (bad_names a) (bad_names b)

pub put_pairs-append : (a b : List (List ℕ × Value)) (m : FieldMap) → put_pairs (a ++ b) m ≡ put_pairs b (put_pairs a m)
put_pairs-append [] b m = refl
put_pairs-append (pair ∷ a) b m = put_pairs-append a b (insert m pair.0 pair.1)

-- more leaves were added behind the first ones
pub gathers_on : (a b : Leaves) (old mid new : Found) → Gathers a old mid → Gathers b mid new → Gathers (a ++ b) old new
gathers_on a b old mid new first second = record {
  fields = second.fields ∙ ap (put_pairs (pairs_of b)) first.fields ∙ sym (put_pairs-append (pairs_of a) (pairs_of b) old.fields) ∙ ap (λ ps. put_pairs ps old.fields) (sym (pairs_of-append a b));
  bad = λ names best. subst (IsBest new.names.1)
      (append_assoc names (bad_names a) (bad_names b) ∙ ap (λ ns. names ++ ns) (sym (bad_names-append a b)))
      (second.bad (names ++ bad_names a) (first.bad names best));
}

nothing_yet : (found : Found) → Gathers [] found found
nothing_yet found = record { fields = refl; bad = λ names best. subst (IsBest found.names.1) (sym (append-nil names)) best }

-- the name at hand doesn't matter
pub same_least : (all : Leaves) (old mid new last : Found) → mid.fields ≡ old.fields → mid.names.1 ≡ old.names.1 → last.fields ≡ new.fields → last.names.1 ≡ new.names.1 → Gathers all mid new → Gathers all old last
same_least all old mid new last fields_mid least_mid fields_last least_last gathers = record {
  fields = fields_last ∙ gathers.fields ∙ ap (put_pairs (pairs_of all)) fields_mid;
  bad = λ names best. subst (λ b. IsBest b (names ++ bad_names all)) (sym least_last) (gathers.bad names (subst (λ b. IsBest b names) (sym least_mid) best));
}

-- the leaves before the later ones were added
pub record AreAdded (all later : Leaves) (old new : Found) : Type 0 where
  pub seen : Leaves
  pub splits : all ≡ seen ++ later
  pub added : Gathers seen old new

pub at_start : (all later : Leaves) (found : Found) → all ≡ later → AreAdded all later found found
at_start all later found whole = record { seen = []; splits = whole; added = nothing_yet found }

pub one_more : (all later here rest : Leaves) (old mid new : Found) → later ≡ here ++ rest → AreAdded all later old mid → Gathers here mid new → AreAdded all rest old new
one_more all later here rest old mid new step so_far more = record {
  seen = so_far.seen ++ here;
  splits = so_far.splits ∙ ap (λ ls. so_far.seen ++ ls) step ∙ sym (append_assoc so_far.seen here rest);
  added = gathers_on so_far.seen here old mid new so_far.added more;
}

pub at_end : (all later : Leaves) (old new : Found) → AreAdded all later old new → later ≡ [] → Gathers all old new
at_end all later old new so_far end =
    subst (λ ls. Gathers ls old new) (sym (so_far.splits ∙ ap (λ ls. so_far.seen ++ ls) end ∙ append-nil so_far.seen)) so_far.added

-- the next member of an object
pub next_member : (key name : List ℕ) (left rest : List Entry) (entry : Entry) → left ≡ entry ∷ rest → name ≡ member_name key (string_bytes entry.0)
    → leaves_in key (members_view left) ≡ leaves name (view entry.1) ++ leaves_in key (members_view rest)
next_member key name left rest entry step is =
    ap (λ es. leaves_in key (members_view es)) step ∙ ap (λ k. leaves k (view entry.1) ++ leaves_in key (members_view rest)) (sym is)

-- the next member of a message
pub next_of_message : (key : List ℕ) (left rest : List Entry) (entry : Entry) → left ≡ entry ∷ rest → key ≡ string_bytes entry.0
    → leaves_of (members_view left) ≡ leaves_at key (view entry.1) ++ leaves_of (members_view rest)
next_of_message key left rest entry step is =
    ap (λ es. leaves_of (members_view es)) step ∙ ap (λ k. leaves_at k (view entry.1) ++ leaves_of (members_view rest)) (sym is)

-- ---- all of them

put_from : (ps qs : List (List ℕ × Value)) → put_pairs ps (from_entries qs) ≡ from_entries (reverse ps ++ qs)
put_from [] qs = refl
put_from (p ∷ ps) qs = put_from ps (p ∷ qs) ∙ ap from_entries (sym (ap (λ (t : List (List ℕ × Value)). t ++ qs) (reverse-append (p ∷ []) ps) ∙ append_assoc (reverse ps) (p ∷ []) qs))

pub all_set : (ps : List (List ℕ × Value)) → put_pairs ps empty ≡ set_all ps
all_set ps = put_from ps [] ∙ ap from_entries (append-nil (reverse ps))

-- the name of the object is what is left of a member's
pub cut_back : (key inner now : List ℕ) (len : ℕ) → len ≡ length key → now ≡ member_name key inner → take len now ≡ key
cut_back key inner now len size is = ap (λ n. take n now) size ∙ ap (take (length key)) is ∙ take-append_seam key (46 ∷ inner)
