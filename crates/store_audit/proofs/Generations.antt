-- Generations that are gone through, one behind the other.
use Rattle.std.proofs.Common.{◌≡◌, ◌≤◌, ◌↔◌, ◌+◌, ◌-◌, inl, inr, ℕ, suc, Bool, true, false, List, [], ◌∷◌, length, take, drop, get_or, Option, Some, None, Result, IfOk, refl, sym, ap, subst, ◌∙◌, arith}
use Rattle.std.proofs.lemmas.List.{append-nil, take_all}
use Rattle.edge_traits.specs.Disk.{DiskView, Image}
use Rattle.disk_journal.specs.GateFile.{HasBodies, HasRecords}
use Rattle.disk_journal.specs.Journal.{IsHeadFault}
use Rattle.disk_journal.specs.Reads.{OnlyReads}
use Rattle.disk_journal.specs.declared.journal.JournalFault.{JournalFault}
use Rattle.disk_journal.specs.declared.journal.JournalFault.TheVariants as fault
use Rattle.disk_journal.proofs.Walking.{reads_on}
use Rattle.stored_types.proofs.Readers.{one_code}
use Rattle.step_code.specs.declared.base.Base.{Base}
use Rattle.step_code.specs.Code.{code_of_base, first_format}
use Rattle.step_code.specs.History.{replay}
use Rattle.step_code.specs.Rules.{Meaning}
use Rattle.step_code.proofs.StateLaws.{base_law}
use Rattle.store_image.specs.Damage.{behind_bodies}
use Rattle.store_image.specs.Files.{generation_file, heading_of}
use Rattle.generation_reading.specs.Reading.{IsBase}
use Rattle.generation_reading.proofs.Bodies.{behind_more}
use Rattle.store_audit.specs.Audit.{AreWrong, ComeTo, Follows, HaveFault, IsWrong}
use Rattle.store_audit.specs.Ends.{verdict_of, AreThrough, HasCome, IsBegun, IsEnd, IsUnbegun, LeadsTo}
use Rattle.store_audit.specs.declared.generation.End.{End}
use Rattle.store_audit.specs.declared.generation.End.TheVariants as end
use Rattle.store_audit.specs.declared.verdict.AuditFault.{AuditFault}
use Rattle.store_audit.specs.declared.verdict.Verdict.{Verdict}
use Rattle.store_audit.specs.declared.verdict.Verdict.TheVariants as verdict

-- the first body and those behind it
pub first_and_rest : (bodies : List (List ℕ)) (item body : List ℕ) → 1 ≤ length bodies → item ≡ get_or bodies 0 item → body ≡ item → bodies ≡ body ∷ take (length bodies - 1) (drop 1 bodies)
first_and_rest [] item body some is same = absurd (omega (arith, some))
first_and_rest (one ∷ others) item body some is same =
    (λ i. sym (same ∙ is) i ∷ sym (take_all (length (one ∷ others) - 1) others (omega arith)) i)

-- a state with which the generation may not begin
pub unbegun : (m : Meaning) (image : Image) (g : ℕ) (before : Option Base) (body : List ℕ) (base s : Base) → IsBase m body base → s ≡ base → (is : Bool) → is ≡ false → (is ≡ true ↔ Follows m image before s) → (file : ℕ) → file ≡ generation_file g
    → IsUnbegun m image g before body (verdict.Damaged file 25)
unbegun m image g before body base s found state is fails decides file there = record {
  wrong = λ other writable sound follows same.
      let one = one_code base_law base other [] [] found.writable writable (append-nil (code_of_base first_format base) ∙ sym found.code ∙ same ∙ sym (append-nil (code_of_base first_format other))) in
      let holds = decides.1 (subst (Follows m image before) (sym (state ∙ one.0)) follows) in
      let none = sym fails ∙ holds in
      absurd (cc);
  place = ap (λ (f : ℕ). verdict.Damaged f 25) there;
}

module _ (m : Meaning) (image : Image) (g : ℕ) (before : Option Base) (bodies : List (List ℕ)) (cut : Option ℕ) (body : List ℕ) (records : List (List ℕ)) (splits : bodies ≡ body ∷ records) where
  -- a first body with which the generation may not begin
  pub begun_wrong : (e : End) → IsEnd (IsUnbegun m image g before body) e → IsEnd (AreWrong m image g before bodies cut) e
  begun_wrong (end.Found found) is = inr (inl (record { body = body; records = records; splits = splits; wrong = is.wrong }, is.place))
  begun_wrong (end.Fault why) is = tt

  module _ (base : Base) (begun : IsBegun m image before body base) where
    as_code : bodies ≡ code_of_base first_format base ∷ records
    as_code = splits ∙ ap (λ (b : List ℕ). b ∷ records) begun.code

    pub gone_wrong : (start : ℕ) → start ≡ 25 + length body → (e : End) → IsEnd (HaveFault m g base start records cut) e → IsEnd (AreWrong m image g before bodies cut) e
    gone_wrong start there (end.Found found) is =
        let code = code_of_base first_format base in
        let place : start ≡ behind_bodies (code ∷ []) = omega (arith, there, ap length begun.code, behind_more [] code) in
        inr (inr (record {
          base = base;
          records = records;
          splits = as_code;
          writable = begun.writable;
          sound = begun.sound;
          follows = begun.follows;
          fault = subst (λ (n : ℕ). HaveFault m g base n records cut found) place is;
        }))
    gone_wrong start there (end.Fault why) is = tt

    pub leads_on : (behind : Base) → HasRecords (heading_of first_format g) bodies cut (image (generation_file g)) → AreThrough m base records cut behind → LeadsTo m image g before behind
    leads_on behind has through = record {
      base = base;
      steps = through.steps;
      right = record {
        holds = record {
          format = first_format;
          known = refl;
          records = records;
          bodies = subst (λ (bs : List (List ℕ)). HasBodies (heading_of first_format g) bs (image (generation_file g))) as_code (subst (λ (c : Option ℕ). HasRecords (heading_of first_format g) bodies c (image (generation_file g))) through.whole has);
          writable = begun.writable;
          content = through.hold.content;
        };
        sound = begun.sound;
        follows = begun.follows;
        allowed = through.hold.pass;
      };
      leads = through.leads;
    }

-- what is wrong with the records of a file is wrong with the generation
pub records_wrong : (m : Meaning) (image : Image) (g : ℕ) (before : Option Base) (bodies given : List (List ℕ)) (cut : Option ℕ) (file : ℕ) → file ≡ generation_file g → given ≡ bodies → HasRecords (heading_of first_format g) bodies cut (image file)
    → (e : End) → IsEnd (AreWrong m image g before given cut) e → IsEnd (IsWrong m image g before) e
records_wrong m image g before bodies given cut file there same has (end.Found found) is =
    inr (bodies, cut, subst (λ (f : ℕ). HasRecords (heading_of first_format g) bodies cut (image f)) there has, subst (λ (bs : List (List ℕ)). AreWrong m image g before bs cut found) same is)
records_wrong m image g before bodies given cut file there same has (end.Fault why) is = tt

-- ---- one generation behind the other

-- so many are left, of which this is the next
left_of : (all next : ℕ) → next + 1 ≤ all → all - next ≡ suc (all - (next + 1))
left_of all next some = omega (arith, some)

-- the first
pub has_begun : (m : Meaning) (old now : DiskView) (all : ℕ) (s : Base) → 1 ≤ all → OnlyReads old now → ((files : Image) → old.told ≡ Some files → LeadsTo m files 0 None s) → HasCome m old now all 1 s
has_begun m old now all s some reads leads = record {
  reads = reads;
  so = λ files told found come.
      let is = leads files told in
      let more : all ≡ suc (all - 1) = omega (arith, some) in
      subst (λ (n : ℕ). ComeTo m files n 0 None found) (sym more) (inr (is.base, is.steps, is.right, subst (λ (t : Base). ComeTo m files (all - 1) 1 (Some t) found) is.leads come));
}

-- one more
pub has_come : (m : Meaning) (old mid now : DiskView) (all next : ℕ) (s t : Base) → next + 1 ≤ all → HasCome m old mid all next s → OnlyReads mid now
    → ((files : Image) → mid.told ≡ Some files → LeadsTo m files next (Some s) t) → HasCome m old now all (next + 1) t
has_come m old mid now all next s t some was reads leads = record {
  reads = reads_on was.reads reads;
  so = λ files told found come.
      let is = leads files (was.reads.told ∙ told) in
      let after : next + 1 ≡ suc next = omega arith in
      was.so files told found (subst (λ (n : ℕ). ComeTo m files n next (Some s) found) (sym (left_of all next some))
      (inr (
        is.base,
        is.steps,
        is.right,
        subst (λ (n : ℕ). ComeTo m files (all - (next + 1)) n (Some (replay m is.base is.steps)) found) after
            (subst (λ (u : Base). ComeTo m files (all - (next + 1)) (next + 1) (Some u) found) is.leads come),
      )));
}

-- a generation that is wrong
pub comes_wrong : (m : Meaning) (old mid : DiskView) (all next : ℕ) (s : Base) → next + 1 ≤ all → HasCome m old mid all next s → (files : Image) → old.told ≡ Some files → (found : Verdict)
    → IsWrong m files next (Some s) found → ComeTo m files all 0 None found
comes_wrong m old mid all next s some was files told found wrong =
    was.so files told found (subst (λ (n : ℕ). ComeTo m files n next (Some s) found) (sym (left_of all next some)) (inl wrong))

-- behind the last
pub comes_legal : (m : Meaning) (old mid : DiskView) (all next : ℕ) (s : Base) → all ≤ next → HasCome m old mid all next s → (files : Image) → old.told ≡ Some files → ComeTo m files all 0 None (verdict.Legal s.steps)
comes_legal m old mid all next s none was files told =
    let no_more : all - next ≡ 0 = omega (arith, none) in
    was.so files told (verdict.Legal s.steps) (subst (λ (n : ℕ). ComeTo m files n next (Some s) (verdict.Legal s.steps)) (sym no_more) refl)

-- ---- how it ends

pub end_by : (P Q : Verdict → Type 0) → ((found : Verdict) → P found → Q found) → (e : End) → IsEnd P e → IsEnd Q e
end_by P Q so (end.Found found) is = so found is
end_by P Q so (end.Fault why) is = tt

pub verdict_by : (P : Verdict → Type 0) (e : End) (r : Result Verdict AuditFault) → r ≡ verdict_of e → IsEnd P e → IfOk r P
verdict_by P (end.Found found) r is holds = subst (λ (x : Result Verdict AuditFault). IfOk x P) (sym is) holds
verdict_by P (end.Fault why) r is holds = subst (λ (x : Result Verdict AuditFault). IfOk x P) (sym is) tt

-- a file without records
pub headless_wrong : (m : Meaning) (image : Image) (g : ℕ) (before : Option Base) (e : JournalFault) (at place file : ℕ) → e ≡ fault.Damaged at → place ≡ at → file ≡ generation_file g
    → IsHeadFault (heading_of first_format g) (image file) e → IsWrong m image g before (verdict.Damaged file place)
headless_wrong m image g before e at place file is same there head =
    inl (at, subst (λ (f : ℕ). IsHeadFault (heading_of first_format g) (image f) (fault.Damaged at)) there (subst (IsHeadFault (heading_of first_format g) (image file)) is head), (λ i. verdict.Damaged (there i) (same i)))
