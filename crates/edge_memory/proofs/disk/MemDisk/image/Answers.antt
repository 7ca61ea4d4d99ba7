use Rattle.std.proofs.Common.{◌≡◌, ◌<◌, ◌⊎◌, ◌∙◌, take, ℕ, List, length, reverse, get_or, sym, ap, subst, arith}
use Rattle.edge_memory.specs.declared.change.Entry.{Entry}
use Rattle.edge_memory.specs.Entries.{content, left, made, has_file}
use Rattle.edge_memory.specs.Torn.{take_whole}
use Rattle.edge_memory.specs.Crashed.{image, durable}
use Rattle.edge_memory.proofs.Crashes.{image_left, image_kept, image_crashed, crashed_longest, crashed_shortest, crashed_filled, crashed_rest}
use Rattle.edge_memory.proofs.Restored.{IsRestored, restored}
use Rattle.edge_memory.proofs.disk.MemDisk.image.Goals as goal

-- what the first calls changed
past : (c : goal.After-with_log) → reverse c.past-past.result.now ≡ made c.args.call c.args.self.now.log.entries.items
past c = ap reverse c.past-past.ensures

-- each file of the new disk is as the crash leaves it
noted : (c : goal.After-with_log) (file : ℕ) → IsRestored c.args.choice.now (reverse c.past-past.result.now) (reverse c.entries.log.entries.items) file
noted c file =
    let all : take c.entries.entry-index c.past-past.result.now ≡ c.past-past.result.now = take_whole c.entries.entry-index c.past-past.result.now c.entries-test.false in
    restored c.args.choice.now c.past-past.result.now c.entries.log.entries.items c.entries.invariant.found (λ f has. c.entries.invariant.covers f (ap (has_file f) all ∙ has)) file

-- the log of the new disk
log : (c : goal.After-with_log) → c.with_log.result.log.entries.items ≡ c.entries.log.entries.items
log c = ap (λ l. l.entries.items) c.with_log.ensures.log

same : (c : goal.After-with_log) (file : ℕ) → content file (reverse c.with_log.result.log.entries.items) ≡ image c.args.choice.now file (made c.args.call c.args.self.now.log.entries.items)
same c file =
    ap (λ es. content file (reverse es)) (log c) ∙ (noted c file).same ∙ ap (image c.args.choice.now file) (past c)

pub returns-clause-left : goal.returns-clause-left
returns-clause-left c = λ file. subst (left file (made c.args.call c.args.self.now.log.entries.items)) (sym (same c file)) (image_left c.args.choice.now file _)

pub returns-clause-nothing_pending : goal.returns-clause-nothing_pending
returns-clause-nothing_pending c = λ file bytes is_left.
    (noted c file).only bytes (subst (λ (es : List Entry). left file (reverse es) bytes) (log c) is_left) ∙ sym (ap (λ es. content file (reverse es)) (log c))

pub returns-clause-kept : goal.returns-clause-kept
returns-clause-kept c = λ keep file. same c file ∙ image_kept c.args.choice.now file _ keep

pub returns-clause-filled : goal.returns-clause-filled
returns-clause-filled c = λ lost file k within pending.
    let is = same c file ∙ image_crashed c.args.choice.now file _ lost in
    ap (λ l. get_or l k 0) is ∙ crashed_filled c.args.choice.now file (made c.args.call c.args.self.now.log.entries.items) k (subst (λ (l : List ℕ). k < length l) is within) pending

pub returns-clause-rest : goal.returns-clause-rest
returns-clause-rest c = λ lost file k within.
    let is = same c file ∙ image_crashed c.args.choice.now file _ lost in
    subst (λ (l : List ℕ). (get_or l k 0 ≡ c.args.choice.now.filler) ⊎ ((k < length (durable file (made c.args.call c.args.self.now.log.entries.items))) × (get_or l k 0 ≡ get_or (durable file (made c.args.call c.args.self.now.log.entries.items)) k 0))) (sym is)
    (crashed_rest c.args.choice.now file (made c.args.call c.args.self.now.log.entries.items) k (subst (λ (l : List ℕ). k < length l) is within))

pub returns-clause-longest : goal.returns-clause-longest
returns-clause-longest c = λ lost longest file bytes is_left.
    let is = same c file ∙ image_crashed c.args.choice.now file _ lost in
    omega (arith, ap length is, crashed_longest c.args.choice.now longest file _ bytes is_left)

pub returns-clause-shortest : goal.returns-clause-shortest
returns-clause-shortest c = λ lost shortest file bytes is_left.
    let is = same c file ∙ image_crashed c.args.choice.now file _ lost in
    omega (arith, ap length is, crashed_shortest c.args.choice.now shortest file _ bytes is_left)
