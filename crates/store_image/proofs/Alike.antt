-- Files of a store that differ only behind their records.
use Rattle.std.proofs.Common.{◌≡◌, inl, inr, ◌==◌, ℕ, suc, Bool, true, false, List, [], ◌∷◌, refl, sym, ap, ◌∙◌, subst, arith, if◌then◌else◌}
use Rattle.std.proofs.lemmas.Bool.{eqb-true}
use Rattle.edge_traits.specs.Disk.{Image}
use Rattle.disk_journal.specs.declared.header.Heading.{Heading}
use Rattle.disk_journal.specs.GateFile.{HasBodies, HaveSameBodies}
use Rattle.disk_journal.proofs.GateFiles.{bodies_are_one}
use Rattle.step_code.specs.declared.base.Base.{Base}
use Rattle.step_code.specs.declared.step.Step.{Step}
use Rattle.step_code.specs.Code.{first_format}
use Rattle.step_code.specs.History.{replay}
use Rattle.step_code.specs.Rules.{Meaning}
use Rattle.store_image.specs.Files.{root_file, out_file, generation_file, heading_of, root_heading, IsStoreFile}
use Rattle.store_image.specs.Stands.{AreArchived, IsArchive, Origin, StandsFor, WhereWhole}
use Rattle.store_image.specs.Stored.{HoldsSteps, IsStored}
use Rattle.store_image.proofs.Standing.{put_file, put_there, put_elsewhere, fronts_same}

-- the same records in the root and in each generation, and the same outputs
pub record AreAlike (a b : Image) : Type 0 where
  pub root : (bodies : List (List ℕ)) → HasBodies root_heading bodies (a root_file) → HasBodies root_heading bodies (b root_file)
  pub generations : (format g : ℕ) (bodies : List (List ℕ)) → format ≡ first_format → HasBodies (heading_of format g) bodies (a (generation_file g)) → HasBodies (heading_of format g) bodies (b (generation_file g))
  pub outs : (k : ℕ) → a (out_file k) ≡ b (out_file k)

holds_alike : (a b : Image) → AreAlike a b → (g : ℕ) (base : Base) (steps : List Step) → HoldsSteps g (a (generation_file g)) base steps → HoldsSteps g (b (generation_file g)) base steps
holds_alike a b alike g base steps is = record {
  format = is.format;
  known = is.known;
  records = is.records;
  bodies = alike.generations is.format g _ is.known is.bodies;
  writable = is.writable;
  content = is.content;
}

stored_alike : (a b : Image) → AreAlike a b → (g : ℕ) (base : Base) (steps : List Step) → IsStored a g base steps → IsStored b g base steps
stored_alike a b alike g base steps is = record {
  named = record { before = is.named.before; bodies = alike.root _ is.named.bodies; given = is.named.given };
  holds = holds_alike a b alike g base steps is.holds;
}

archived_alike : (m : Meaning) (a b : Image) → AreAlike a b → (h : ℕ) (s : Base) (held : List (Base × List Step)) → AreArchived m a h s held → AreArchived m b h s held
archived_alike m a b alike h s [] each = tt
archived_alike m a b alike h s (held ∷ later) each = (holds_alike a b alike h held.0 held.1 each.0, each.1, archived_alike m a b alike (suc h) (replay m held.0 held.1) later each.2)

below_alike : (whole : Bool) (m : Meaning) (first : Base) (g : ℕ) (base : Base) (past : List Step) (a b : Image) → AreAlike a b → WhereWhole whole (IsArchive m first g base past a) → WhereWhole whole (IsArchive m first g base past b)
below_alike true m first g base past a b alike is = record { held = is.held; count = is.count; each = archived_alike m a b alike 0 first is.held is.each; joins = is.joins; ends = is.ends }
below_alike false m first g base past a b alike is = tt

pub stands_alike : (m : Meaning) (origin : Origin) (steps more : List Step) (a b : Image) → AreAlike a b → StandsFor m origin steps more a → StandsFor m origin steps more b
stands_alike m origin steps more a b alike is =
    let stands = is.stands in
    record {
      count = is.count;
      within = is.within;
      stands = record {
        generation = stands.generation;
        base = stands.base;
        past = stands.past;
        steps = stands.steps;
        splits = stands.splits;
        stored = stored_alike a b alike stands.generation stands.base stands.steps stands.stored;
        seals = stands.seals;
        fronts = fronts_same 0 (replay m origin.first stands.past).outs stands.base.outs a b alike.outs stands.fronts;
        short = stands.short;
        unsealed = stands.unsealed;
        below = below_alike origin.whole m origin.first stands.generation stands.base stands.past a b alike stands.below;
      };
    }

has_same : (heading : Heading) (bodies : List (List ℕ)) (a b : List ℕ) → HaveSameBodies heading a b → HasBodies heading bodies a → HasBodies heading bodies b
has_same heading bodies a b same has = subst (λ (bs : List (List ℕ)). HasBodies heading bs b) (bodies_are_one heading same.bodies bodies a same.first has) same.second

module _ (content : List ℕ) (image : Image) where
  alike_root : HaveSameBodies root_heading content (image root_file) → AreAlike (put_file root_file content image) image
  alike_root same = record {
    root = λ bodies has. has_same root_heading bodies content (image root_file) same (subst (λ (c : List ℕ). HasBodies root_heading bodies c) (put_there root_file content image) has);
    generations = λ format g bodies known has. subst (λ (c : List ℕ). HasBodies (heading_of format g) bodies c) (put_elsewhere root_file (generation_file g) content image (λ e. omega (arith, e))) has;
    outs = λ k. put_elsewhere root_file (out_file k) content image (λ e. omega (arith, e));
  }

  has_either : (g h : ℕ) (bodies : List (List ℕ)) (is : Bool) → (generation_file h == generation_file g) ≡ is → HaveSameBodies (heading_of first_format g) content (image (generation_file g))
      → HasBodies (heading_of first_format h) bodies (if is then content else image (generation_file h)) → HasBodies (heading_of first_format h) bodies (image (generation_file h))
  has_either g h bodies true is same has =
      let one : g ≡ h = omega (arith, eqb-true (generation_file h) (generation_file g) is) in
      has_same (heading_of first_format h) bodies content (image (generation_file h)) (subst (λ (n : ℕ). HaveSameBodies (heading_of first_format n) content (image (generation_file n))) one same) has
  has_either g h bodies false is same has = has

  alike_generation : (g : ℕ) → HaveSameBodies (heading_of first_format g) content (image (generation_file g)) → AreAlike (put_file (generation_file g) content image) image
  alike_generation g same = record {
    root = λ bodies has. subst (λ (c : List ℕ). HasBodies root_heading bodies c) (put_elsewhere (generation_file g) root_file content image (λ e. omega (arith, e))) has;
    generations = λ format h bodies known has.
        subst (λ (f : ℕ). HasBodies (heading_of f h) bodies (image (generation_file h))) (sym known)
        (has_either g h bodies (generation_file h == generation_file g) refl same (subst (λ (f : ℕ). HasBodies (heading_of f h) bodies (put_file (generation_file g) content image (generation_file h))) known has));
    outs = λ k. put_elsewhere (generation_file g) (out_file k) content image (λ e. omega (arith, e));
  }

  -- what is put back into one of these files is alike, if it has the same records
  pub alike_put : (file : ℕ) (heading : Heading) → IsStoreFile file heading → HaveSameBodies heading content (image file) → AreAlike (put_file file content image) image
  alike_put file heading (inl (is, head)) =
      subst (λ (n : ℕ). HaveSameBodies heading content (image n) → AreAlike (put_file n content image) image) (sym is)
      (λ same. alike_root (subst (λ (h : Heading). HaveSameBodies h content (image root_file)) head same))
  alike_put file heading (inr (format, g, known, is, head)) =
      subst (λ (n : ℕ). HaveSameBodies heading content (image n) → AreAlike (put_file n content image) image) (sym is)
      (λ same. alike_generation g (subst (λ (h : Heading). HaveSameBodies h content (image (generation_file g))) (head ∙ ap (λ (f : ℕ). heading_of f g) known) same))
