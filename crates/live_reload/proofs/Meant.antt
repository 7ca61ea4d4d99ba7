-- What lines ask for, and what they are answered with.
use Rattle.std.proofs.Common.{◌≡◌, ℕ, inl, inr, Option, Some, None, Result, Ok, Err, List, sym, ap, ◌∙◌}
use Rattle.edge_traits.specs.Shelf.{ShelfView}
use Rattle.live_reload.specs.declared.order.Order.{Order}
use Rattle.live_reload.specs.declared.order.Order.TheVariants as order
use Rattle.bundle_fetch.specs.Fetch.{bundle_from, Files}
use Rattle.bundle_bringing.specs.Brought.{IsNamed}
use Rattle.bundle_bringing.specs.declared.bringing.Unbrought.{Unbrought}
use Rattle.bundle_bringing.specs.declared.bringing.Unbrought.TheVariants as unbrought
use Rattle.live_reload.specs.Answers.{answer_in, brought_answer, fetched_answer, loaded_answer, IsAnswerTo, IsMeant}
use Rattle.live_reload.specs.declared.control.Control.{Control}
use Rattle.live_reload.specs.declared.control.Control.TheVariants as control
use Rattle.live_reload.specs.declared.word.Word.{Word}
use Rattle.live_reload.specs.declared.word.Word.TheVariants as word

pair_is : (a b : Word × Order) → Some a ≡ Some b → b ≡ a
pair_is a b is = cc

brought_means : (files : Files) (name : List ℕ) (r : Result (Option (List ℕ)) Unbrought) (w : Word) (o : Order) → IsNamed files (Some name) r → brought_answer r ≡ Some (w, o) → IsMeant (fetched_answer (bundle_from files name)) w o
brought_means files name (Ok None) w o named is = absurd named
brought_means files name (Ok (Some code)) w o named is =
    let found = named.1 in
    inl (pair_is _ (w, o) is ∙ ap (λ c. (word.Reload, order.Reload c)) named.2 ∙ sym (ap fetched_answer found.0 ∙ ap (loaded_answer named.0.0) found.1))
brought_means files name (Err (unbrought.Absent other)) w o named is = inl (pair_is _ (w, o) is ∙ sym (ap fetched_answer named))
brought_means files name (Err (unbrought.Failed other)) w o named is =
    let pair : (w, o) ≡ (word.Failed, order.Nothing) = pair_is _ (w, o) is in
    inr (ap (λ (p : Word × Order). p.0) pair, ap (λ (p : Word × Order). p.1) pair)
brought_means files name (Err (unbrought.Config fault)) w o named is = inl (pair_is _ (w, o) is ∙ sym (ap fetched_answer named.1 ∙ ap (loaded_answer named.0) named.2))
brought_means files name (Err unbrought.OutOfMemory) w o named is = absurd (cc)

pub means_of : (asked : Control) (shelf : ShelfView) (w : Word) (o : Order) → IsAnswerTo asked shelf w o → (files : Files) → shelf.told ≡ Some files → IsMeant (answer_in files asked) w o
means_of control.Round shelf w o answer files told = inl (ap (λ x. (x, o)) answer.0 ∙ ap (λ y. (word.Round, y)) answer.1)
means_of control.Stop shelf w o answer files told = inl (ap (λ x. (x, o)) answer.0 ∙ ap (λ y. (word.Stop, y)) answer.1)
means_of control.Bad shelf w o answer files told = inl (ap (λ x. (x, o)) answer.0 ∙ ap (λ y. (word.Bad, y)) answer.1)
means_of (control.Reload name) shelf w o answer files told = brought_means files name answer.0 w o (answer.1 files told) answer.2
