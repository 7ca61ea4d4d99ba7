-- The printed text of a status, and its number.
use Rattle.std.specs.Prelude.{ℕ, List, ◌++◌, codes, decimal, Option, Some, None}
use Rattle.runtime_config.specs.declared.fault.LoadFault.{LoadFault}
use Rattle.runtime_config.specs.declared.fault.LoadFault.TheVariants as fault
use Rattle.status_texts.specs.declared.status.FeedWhy.{FeedWhy}
use Rattle.status_texts.specs.declared.status.FeedWhy.TheVariants as why
use Rattle.status_texts.specs.declared.status.Status.{Status}
use Rattle.status_texts.specs.declared.status.Status.TheVariants as status

-- ---- faults of bundles

-- the number of a fault; want of memory is none
abbrev pub fault_number : LoadFault → ℕ
fault_number fault.Json = 1
fault_number (fault.Module bot) = 2
fault_number (fault.Parameter bot name) = 3
fault_number (fault.Missing bot name) = 4
fault_number (fault.File bot) = 5
fault_number (fault.Sieve bot e) = 6
fault_number (fault.Path bot at) = 7
fault_number (fault.Cycle bot) = 8
fault_number (fault.Limit bot) = 9
fault_number (fault.Queue bot) = 10
fault_number (fault.Table bot line) = 11
fault_number (fault.Rules bot rule) = 13
fault_number fault.OutOfMemory = 0

-- the bot that has it
abbrev pub fault_bot : LoadFault → Option (List ℕ)
fault_bot fault.Json = None
fault_bot (fault.Module bot) = Some bot
fault_bot (fault.Parameter bot name) = Some bot
fault_bot (fault.Missing bot name) = Some bot
fault_bot (fault.File bot) = Some bot
fault_bot (fault.Sieve bot e) = Some bot
fault_bot (fault.Path bot at) = Some bot
fault_bot (fault.Cycle bot) = Some bot
fault_bot (fault.Limit bot) = Some bot
fault_bot (fault.Queue bot) = Some bot
fault_bot (fault.Table bot line) = Some bot
fault_bot (fault.Rules bot rule) = Some bot
fault_bot fault.OutOfMemory = None

abbrev pub config_text : ℕ → Option (List ℕ) → List ℕ
config_text number None = codes "config " ++ decimal number
config_text number (Some bot) = codes "config " ++ decimal number ++ codes " " ++ bot

-- ---- statuses

abbrev pub why_word : FeedWhy → List ℕ
why_word why.Absent = codes "absent"
why_word why.Failed = codes "failed"

abbrev pub text_of : Status → List ℕ
text_of status.Done = codes "done"
text_of status.Memory = codes "memory"
text_of status.Words = codes "words"
text_of (status.Config fault) = config_text (fault_number fault) (fault_bot fault)
text_of (status.Feed name why) = codes "feed " ++ name ++ codes " " ++ why_word why
text_of status.Disk = codes "disk"
text_of status.Sink = codes "sink"
text_of (status.Damaged file at) = codes "damaged " ++ decimal file ++ codes " " ++ decimal at
text_of (status.Stopped steps) = codes "stopped " ++ decimal steps
text_of (status.Full bytes) = codes "full " ++ decimal bytes
text_of (status.Short have need) = codes "short " ++ decimal have ++ codes " " ++ decimal need
text_of (status.Halted bot) = codes "halted " ++ bot
text_of (status.LongLine bot at) = codes "long line " ++ bot ++ codes " " ++ decimal at
text_of (status.LongFeed bot) = codes "long feed " ++ bot
text_of (status.Store have) = codes "store " ++ decimal have
text_of (status.NoDump n) = codes "no dump " ++ decimal n
text_of (status.Illegal step) = codes "illegal " ++ decimal step
text_of (status.BadLine line) = codes "bad line " ++ decimal line
text_of (status.Spent next) = codes "spent " ++ decimal next

-- the number with which the program ends
abbrev pub number_of : Status → ℕ
number_of status.Done = 0
number_of status.Memory = 1
number_of status.Words = 2
number_of (status.Config fault) = 3
number_of (status.Feed name why) = 4
number_of status.Disk = 5
number_of status.Sink = 6
number_of (status.Damaged file at) = 7
number_of (status.Stopped steps) = 8
number_of (status.Full bytes) = 9
number_of (status.Short have need) = 10
number_of (status.Halted bot) = 11
number_of (status.LongLine bot at) = 12
number_of (status.LongFeed bot) = 13
number_of (status.Store have) = 14
number_of (status.NoDump n) = 15
number_of (status.Illegal step) = 16
number_of (status.BadLine line) = 17
number_of (status.Spent next) = 18
