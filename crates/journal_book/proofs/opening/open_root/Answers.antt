use Rattle.std.proofs.Common.{◌≡◌, [], ◌∷◌, ◌++◌, List, ℕ, length, map, sym, ap, subst, ◌∙◌}
use Rattle.disk_journal.specs.declared.header.Heading.{Heading}
use Rattle.disk_journal.specs.GateFile.{gate_file, HasBodies}
use Rattle.stored_types.specs.Code.{number}
use Rattle.disk_journal.specs.Journal.{IsAtRest}
use Rattle.store_image.specs.Damage.{NameNone}
use Rattle.journal_book.proofs.Histories.{bad_bodies}
use Rattle.journal_book.proofs.opening.open_root.Goals as goal
use Rattle.store_image.specs.Files.{root_heading}

pub returns-in-Ok-generation_named-clause-at_rest : goal.returns-in-Ok-generation_named-clause-at_rest
returns-in-Ok-generation_named-clause-at_rest g c = λ files after told now.
    let named = c.in-Ok-generation_named.ensures.ok in (
      named.before,
      named.given,
      subst (λ (bodies : List (List ℕ)). IsAtRest c.in-Ok.found.0 (g.D.Disk.disk c.open_journal.new.disk).may_leave bodies after) (sym c.as_slice.ensures ∙ named.is) (c.in-Ok.ensures.at_rest files after told now),
    )

pub returns-in-Err-generation_named-clause-fault : goal.returns-in-Err-generation_named-clause-fault
returns-in-Err-generation_named-clause-fault g c = λ files told.
    bad_bodies root_heading NameNone c.in-Ok.found.1 c.as_slice.result.now (files 0) c.in-Err-generation_named.fault c.as_slice.ensures
    (subst (λ (h : Heading). HasBodies h c.in-Ok.found.1 (files 0)) c.root_heading.ensures (c.in-Ok.ensures.bodies files told)) c.in-Err-generation_named.ensures.fault

pub returns-in-Ok-generation_named-clause-root : goal.returns-in-Ok-generation_named-clause-root
returns-in-Ok-generation_named-clause-root g c = λ files told.
    let named = c.in-Ok-generation_named.ensures.ok in
    let is : c.in-Ok.found.1 ≡ map number (named.before ++ c.in-Ok-generation_named.generation ∷ []) = sym c.as_slice.ensures ∙ named.is in
    record {
      before = named.before;
      bodies = subst (λ (bodies : List (List ℕ)). HasBodies root_heading bodies (files 0)) is
          (subst (λ (h : Heading). HasBodies h c.in-Ok.found.1 (files 0)) c.root_heading.ensures (c.in-Ok.ensures.bodies files told));
      is = c.in-Ok.ensures.length ∙ ap (λ (h : Heading). length (gate_file h c.in-Ok.found.1 0)) c.root_heading.ensures
          ∙ ap (λ (bodies : List (List ℕ)). length (gate_file root_heading bodies 0)) is;
    }
