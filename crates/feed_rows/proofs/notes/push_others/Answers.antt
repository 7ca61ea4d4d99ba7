use Rattle.std.proofs.Common.{ℕ, List, ◌++◌, ◌∙◌, ap, string_bytes}
use Rattle.feed_rows.specs.Notes.{bar}
use Rattle.feed_rows.proofs.Joins.{next_joined}
use Rattle.feed_rows.proofs.notes.push_others.Goals as goal

pub names-preserved : goal.names-preserved
names-preserved c =
    next_joined bar c.args.first.now c.args.others.now c.names.name-index c.name-item.result (string_bytes c.names.text) (string_bytes c.push_str.new.self) (string_bytes c.push_str-in-names.new.self)
    c.names.invariant c.names-test.true c.name-item.is c.in_ok-push_str.ensures.bytes (c.in_ok-push_str-2.ensures.bytes ∙ ap (λ (t : List ℕ). string_bytes c.push_str.new.self ++ t) c.as_str.ensures)
