-- What a bot's file gives as a sieve.
use Rattle.std.proofs.Common.{◌≡◌, ℕ, List, Option, Some, None, Result, Ok, Err, refl, sym, ap, subst}
use Rattle.std.specs.Prelude.{option_map}
use Rattle.runtime_config.specs.SieveIn.{sieve_in, IsReadAs}
use Rattle.sieve_tree.specs.SieveView.{SieveView}
use Rattle.sieve_reader.specs.declared.sieve.SieveFault.{SieveFault}
use Rattle.sieve_reader.specs.declared.sieve.SieveFault.TheVariants as sieve
use Rattle.runtime_config.specs.Found.{IsSieveOf}
use Rattle.runtime_config.specs.Sieves.{fault_or_none, fault_with, no_sieve, refusal_of, sieve_of, sieve_or_none}
use Rattle.runtime_config.specs.declared.fault.LoadFault.{LoadFault}
use Rattle.runtime_config.specs.declared.fault.LoadFault.TheVariants as fault

module _ (bot : List ℕ) where
  abbrev pub Gives : Option (List ℕ) → Result SieveView LoadFault → Type 0
  Gives text r = IsSieveOf (option_map (fault.Sieve bot) (refusal_of text)) (sieve_of text) r

  pub without_text : (text : Option (List ℕ)) (s : SieveView) → None ≡ text → s ≡ no_sieve → Gives text (Ok s)
  without_text text s is empty = subst (λ (o : Option (List ℕ)). Gives o (Ok s)) is (refl, empty)

  pub of_text : (text : List ℕ) (o : Option (List ℕ)) (r : Result SieveView LoadFault) → Some text ≡ o → Gives (Some text) r → Gives o r
  of_text text o r same is = subst (λ (p : Option (List ℕ)). Gives p r) same is

  pub of_read : (text : List ℕ) (s : SieveView) → IsReadAs (sieve_in text) (Ok s) → Gives (Some text) (Ok s)
  of_read text s is = (ap (λ (r : Result SieveView SieveFault). option_map (fault.Sieve bot) (fault_or_none r)) is, sym (ap sieve_or_none is))

  refused : (text : List ℕ) (e : SieveFault) → IsReadAs (sieve_in text) (Err e) → Gives (Some text) (Err (fault_with bot e))
  refused text (sieve.Token at) is = ap (λ (r : Result SieveView SieveFault). option_map (fault.Sieve bot) (fault_or_none r)) is
  refused text (sieve.Expected at) is = ap (λ (r : Result SieveView SieveFault). option_map (fault.Sieve bot) (fault_or_none r)) is
  refused text (sieve.Field at) is = ap (λ (r : Result SieveView SieveFault). option_map (fault.Sieve bot) (fault_or_none r)) is
  refused text (sieve.Value at) is = ap (λ (r : Result SieveView SieveFault). option_map (fault.Sieve bot) (fault_or_none r)) is
  refused text (sieve.Pattern at) is = ap (λ (r : Result SieveView SieveFault). option_map (fault.Sieve bot) (fault_or_none r)) is
  refused text (sieve.Deep at) is = ap (λ (r : Result SieveView SieveFault). option_map (fault.Sieve bot) (fault_or_none r)) is
  refused text sieve.OutOfMemory is = tt

  pub of_refused : (text : List ℕ) (e : SieveFault) (f : LoadFault) → f ≡ fault_with bot e → IsReadAs (sieve_in text) (Err e) → Gives (Some text) (Err f)
  of_refused text e f same is = subst (λ (g : LoadFault). Gives (Some text) (Err g)) (sym same) (refused text e is)
