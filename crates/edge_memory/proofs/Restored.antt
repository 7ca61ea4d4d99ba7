-- The files of a disk that a crash left.
use Rattle.std.proofs.Common.{◌≡◌, ◌==◌, ℕ, Bool, true, false, if◌then◌else◌, ◌||◌, List, [], ◌∷◌, ◌++◌, reverse, Result, Ok, Err, OnOk, Vec, Global, refl, sym, ap, ◌∙◌, subst, MatchBool}
use Rattle.std.proofs.Math.Bool.{or-false, or_comm}
use Rattle.std.proofs.lemmas.Bool.Decides.{Decides-eqb}
use Rattle.std.proofs.lemmas.List.{reverse-append}
use Rattle.std.proofs.lemmas.List.Folds.{list_any-append}
use Rattle.edge_traits.specs.Disk.{Only}
use Rattle.base_types.specs.declared.memory.OutOfMemory.{OutOfMemory}
use Rattle.edge_memory.specs.declared.choice.Choice.{Choice}
use Rattle.edge_memory.specs.declared.change.Change.{Change}
use Rattle.edge_memory.specs.declared.change.Change.TheVariants as did
use Rattle.edge_memory.specs.declared.change.Entry.{Entry}
use Rattle.edge_memory.specs.Entries.{changed, content, left, left_by, has_file}
use Rattle.edge_memory.specs.Crashed.{crashed, crashed_by, image}
use Rattle.edge_memory.specs.Found.{AllFound}

pub found_pushed : (r : Result (Unit {0}) OutOfMemory) (choice : Choice) (past old new : List Entry) (number file : ℕ) (bytes : Vec ℕ Global) → bytes.items ≡ image choice file past → OnOk r (new ≡ old ++ record { number = number; file = file; change = did.Found bytes } ∷ []) → OnOk r (AllFound choice past (reverse old) → AllFound choice past (reverse new))
found_pushed (Ok u) choice past old new number file bytes is pushed = λ all.
    subst (AllFound choice past) (sym (ap reverse pushed ∙ reverse-append old (record { number = number; file = file; change = did.Found bytes } ∷ []))) ((bytes, refl, is), all)
found_pushed (Err e) choice past old new number file bytes is pushed = tt

-- the file is as the crash left it, and nothing of it is pending
pub record IsRestored (choice : Choice) (past found : List Entry) (file : ℕ) : Type 0 where
  pub same : content file found ≡ image choice file past
  pub only : Only (content file found) (left file found)

or_first : (a b : Bool) → (a || b) ≡ false → a ≡ false
or_first true b e = e
or_first false b e = refl

or_second : (a b : Bool) → (a || b) ≡ false → b ≡ false
or_second true b e = absurd (cc)
or_second false b e = e

or_left : (a b : Bool) → (a || b) ≡ true → a ≡ false → b ≡ true
or_left true b e f = absurd (cc)
or_left false b e f = e

-- what a read gives after one entry more, by whether that is of the file
content_by : (here : Bool) (e : Entry) (file : ℕ) (found : List Entry) → here ≡ (e.file == file) → content file (e ∷ found) ≡ (if here then changed e.change (content file found) else content file found)
content_by here e file found test = sym (ap (λ b. if b then changed e.change (content file found) else content file found) test)

left_of : (here : Bool) (e : Entry) (file : ℕ) (found : List Entry) (c : List ℕ) → here ≡ (e.file == file) → left file (e ∷ found) c → MatchBool here (left_by e.change (content file found) (left file found) c) (left file found c)
left_of here e file found c test now = subst (λ (b : Bool). MatchBool b (left_by e.change (content file found) (left file found) c) (left file found c)) (sym test) now

-- one entry more, of a file that the crash left
restored_step : (here : Bool) (choice : Choice) (past found : List Entry) (e : Entry) (file : ℕ) (bytes : Vec ℕ Global) → here ≡ (e.file == file) → e.change ≡ did.Found bytes → bytes.items ≡ image choice e.file past → (here ≡ false → IsRestored choice past found file) → IsRestored choice past (e ∷ found) file
restored_step true choice past found e file bytes test is same rest =
    let this : e.file ≡ file = (Decides-eqb e.file file).0 (sym test) in
    let now : content file (e ∷ found) ≡ bytes.items = content_by true e file found test ∙ ap (λ d. changed d (content file found)) is in
    record {
      same = now ∙ same ∙ ap (λ f. image choice f past) this;
      only = λ c left_now. subst (λ (d : Change). left_by d (content file found) (left file found) c) is (left_of true e file found c test left_now) ∙ sym now;
    }
restored_step false choice past found e file bytes test is same rest =
    let now : content file (e ∷ found) ≡ content file found = content_by false e file found test in
    record {
      same = now ∙ (rest refl).same;
      only = λ c left_now. (rest refl).only c (left_of false e file found c test left_now) ∙ sym now;
    }

restored_if_there : (choice : Choice) (past found : List Entry) (file : ℕ) → AllFound choice past found → has_file file found ≡ true → IsRestored choice past found file
restored_if_there choice past [] file all there = absurd (cc)
restored_if_there choice past (e ∷ found) file all there =
    restored_step (e.file == file) choice past found e file all.0.0 refl all.0.1 all.0.2 (λ no_more. restored_if_there choice past found file all.1 (or_left _ _ there no_more))

not_there : (file : ℕ) (entries : List Entry) → has_file file entries ≡ false → (content file entries ≡ []) × Only [] (left file entries)
not_there file [] none = (refl, λ c is. is)
not_there file (e ∷ earlier) none =
    let other : (e.file == file) ≡ false = or_first _ _ none in
    let rest = not_there file earlier (or_second _ _ none) in
    (content_by false e file earlier (sym other) ∙ rest.0, λ c now. rest.1 c (left_of false e file earlier c (sym other) now))

crashed_not_there : (choice : Choice) (file : ℕ) (entries : List Entry) → has_file file entries ≡ false → crashed choice file entries ≡ []
crashed_not_there choice file [] none = refl
crashed_not_there choice file (e ∷ earlier) none =
    ap (λ b. if b then crashed_by choice e.change (content file earlier) (crashed choice file earlier) else crashed choice file earlier) (or_first _ _ none) ∙ crashed_not_there choice file earlier (or_second _ _ none)

image_not_there : (choice : Choice) (file : ℕ) (entries : List Entry) → has_file file entries ≡ false → image choice file entries ≡ []
image_not_there choice file entries none = by_test choice.keep
  where
    by_test : (keep : Bool) → (if keep then content file entries else crashed choice file entries) ≡ []
    by_test true = (not_there file entries none).0
    by_test false = crashed_not_there choice file entries none

has_reverse : (file : ℕ) (entries : List Entry) → has_file file (reverse entries) ≡ has_file file entries
has_reverse file [] = refl
has_reverse file (e ∷ entries) =
    let here : Bool = e.file == file in
    ap (has_file file) (reverse-append (e ∷ []) entries)
    ∙ list_any-append (λ x. x.file == file) (reverse entries) (e ∷ [])
    ∙ ap (λ b. b || (here || false)) (has_reverse file entries)
    ∙ ap (λ b. has_file file entries || b) (or-false here)
    ∙ or_comm (has_file file entries) here

-- each file of the disk is as the crash left it, and nothing of it is pending
pub restored : (choice : Choice) (past found : List Entry) → AllFound choice (reverse past) (reverse found) → ((file : ℕ) → has_file file past ≡ true → has_file file found ≡ true) → (file : ℕ) → IsRestored choice (reverse past) (reverse found) file
restored choice past found all covers file = by_test (has_file file (reverse found)) refl
  where
    by_test : (t : Bool) → t ≡ has_file file (reverse found) → IsRestored choice (reverse past) (reverse found) file
    by_test true there = restored_if_there choice (reverse past) (reverse found) file all (sym there)
    by_test false none =
        let empty = not_there file (reverse found) (sym none) in
        record {
          same = empty.0 ∙ sym (image_not_there choice file (reverse past) (was_none (has_file file (reverse past)) refl));
          only = λ c now. empty.1 c now ∙ sym empty.0;
        }
      where
        was_none : (t : Bool) → t ≡ has_file file (reverse past) → t ≡ false
        was_none true was =
            let there : has_file file found ≡ true = covers file (sym (has_reverse file past) ∙ sym was) in
            let same : has_file file (reverse found) ≡ has_file file found = has_reverse file found in
            absurd (cc)
        was_none false was = refl
