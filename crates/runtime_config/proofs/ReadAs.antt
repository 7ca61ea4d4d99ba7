-- What is read of a text is what it gives.
use Rattle.std.proofs.Common.{◌≡◌, ℕ, List, Result, Ok, Err, IfOk, IfErr, subst}
use Rattle.sieve_reader.specs.Answer.{IsGivenBy}
use Rattle.sieve_reader.specs.Reads.{IsFault, Reads}
use Rattle.runtime_config.specs.SieveIn.{sieve_in, IsReadAs}
use Rattle.sieve_tree.specs.SieveView.{SieveView}
use Rattle.sieve_reader.specs.declared.sieve.SieveFault.{SieveFault}
use Rattle.sieve_reader.specs.declared.sieve.SieveFault.TheVariants as fault
use Rattle.sieve_reader.proofs.TextGives.{given, one_answer}

-- what a text gives is given by it
pub is_given : (text : List ℕ) (r : Result SieveView SieveFault) → sieve_in text ≡ r → IsGivenBy text r
unfolding sieve_in
is_given text r is = subst (IsGivenBy text) is (given text).1

-- and nothing else is
pub given_is : (text : List ℕ) (r : Result SieveView SieveFault) → IsGivenBy text r → sieve_in text ≡ r
unfolding sieve_in
given_is text r is = one_answer text (given text).0 r (given text).1 is

pub read_as : (text : List ℕ) (r : Result SieveView SieveFault) → IfOk r (Reads text) → IfErr r (IsFault text) → IsReadAs (sieve_in text) r
read_as text (Ok s) writes fails = given_is text (Ok s) writes
read_as text (Err (fault.Token at)) writes fails = given_is text (Err (fault.Token at)) fails
read_as text (Err (fault.Expected at)) writes fails = given_is text (Err (fault.Expected at)) fails
read_as text (Err (fault.Field at)) writes fails = given_is text (Err (fault.Field at)) fails
read_as text (Err (fault.Value at)) writes fails = given_is text (Err (fault.Value at)) fails
read_as text (Err (fault.Pattern at)) writes fails = given_is text (Err (fault.Pattern at)) fails
read_as text (Err (fault.Deep at)) writes fails = given_is text (Err (fault.Deep at)) fails
read_as text (Err fault.OutOfMemory) writes fails = tt
