-- What a row loses and gains, by its list.
use Rattle.std.proofs.Common.{◌≡◌, ◌≤◌, ◌+◌, ◌-◌, ◌∙◌, List, [], ◌∷◌, ◌++◌, length, drop, Option, Some, None, refl, sym, ap, arith, get_or-set_same}
use Rattle.std.proofs.lemmas.List.{map-append}
use Rattle.stored_types.specs.declared.mark.Mark.{Mark}
use Rattle.link_store.specs.Links.{IsPopped, Item, LinksView, list_of, with_last}
use Rattle.dedup_cache.specs.Kept.{LosesFirst, RowView, marks_in, row_of}

pub popped_row : (links now : LinksView Mark) (answer : Option Mark) → length links.lists ≡ 1 → IsPopped 0 (list_of links 0) links now answer → LosesFirst (marks_in (list_of links 0)) (row_of (Some links)) (row_of (Some now)) answer
popped_row links now answer one popped = either (list_of links 0) popped
  where
    either : (items : List (Item Mark)) → IsPopped 0 items links now answer → LosesFirst (marks_in items) (row_of (Some links)) (row_of (Some now)) answer
    either [] popped = (popped.0, ap (λ (v : LinksView Mark). row_of (Some v)) popped.1)
    either (item ∷ items) popped = (
      popped.0,
      ap (λ (v : LinksView Mark). row_of (Some v)) popped.1
          ∙ ap (λ (xs : List (Item Mark)). record { marks = marks_in xs; spare = links.spare + 1; pushed = links.pushed }) (get_or-set_same links.lists 0 items [] (omega (arith, one))),
    )

pub pushed_row : (links : LinksView Mark) (item : Item Mark) → length links.lists ≡ 1
    → row_of (Some (record { lists = with_last 0 item links.lists; spare = links.spare - 1; pushed = links.pushed + 1 })) ≡ record { marks = marks_in (list_of links 0) ++ item.value ∷ []; spare = links.spare - 1; pushed = links.pushed + 1 }
pushed_row links item one =
    ap (λ (xs : List (Item Mark)). record { marks = marks_in xs; spare = links.spare - 1; pushed = links.pushed + 1 }) (get_or-set_same links.lists 0 (list_of links 0 ++ item ∷ []) [] (omega (arith, one)))
    ∙ ap (λ (ms : List Mark). record { marks = ms; spare = links.spare - 1; pushed = links.pushed + 1 }) (map-append (λ (x : Item Mark). x.value) (list_of links 0) (item ∷ []))

pub record HasLost (old new : RowView) (mark : Mark) : Type 0 where
  pub all : old.marks ≡ mark ∷ new.marks
  pub marks : new.marks ≡ drop 1 old.marks
  pub pushed : new.pushed ≡ old.pushed
  pub spare : old.spare ≤ new.spare

pub lost_one : (old new : RowView) (answer : Option Mark) (mark : Mark) → answer ≡ Some mark → LosesFirst old.marks old new answer → HasLost old new mark
lost_one old new answer mark some lost = either old.marks refl lost
  where
    either : (marks : List Mark) → old.marks ≡ marks → LosesFirst marks old new answer → HasLost old new mark
    either [] is lost = absurd (cc (some, lost.0))
    either (first ∷ marks) is lost =
        let both : Some first ≡ Some mark = sym lost.0 ∙ some in
        let same : first ≡ mark = cc in
        record {
          all = is ∙ ap (λ (m : Mark). m ∷ marks) same ∙ ap (λ (ms : List Mark). mark ∷ ms) (sym (ap (λ (r : RowView). r.marks) lost.1));
          marks = ap (λ (r : RowView). r.marks) lost.1 ∙ ap (drop 1) (sym is);
          pushed = ap (λ (r : RowView). r.pushed) lost.1;
          spare = omega (arith, ap (λ (r : RowView). r.spare) lost.1);
        }

pub record HasLostNone (old new : RowView) : Type 0 where
  pub same : new ≡ old
  pub marks : new.marks ≡ drop 1 old.marks

pub lost_none : (old new : RowView) (answer : Option Mark) → answer ≡ None → LosesFirst old.marks old new answer → HasLostNone old new
lost_none old new answer none lost = either old.marks refl lost
  where
    either : (marks : List Mark) → old.marks ≡ marks → LosesFirst marks old new answer → HasLostNone old new
    either [] is lost = record { same = lost.1; marks = ap (λ (r : RowView). r.marks) lost.1 ∙ is ∙ ap (drop 1) (sym is) }
    either (first ∷ marks) is lost = absurd (cc (none, lost.0))
