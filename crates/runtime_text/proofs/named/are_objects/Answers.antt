use Rattle.std.proofs.Common.{◌≡◌, ◌&&◌, Bool, true, is_some, not, sym, ap, ◌∙◌}
use Rattle.serde_json.specs.View.{view, members_view}
use Rattle.runtime_text.specs.Named.{are_objects}
use Rattle.runtime_text.specs.Runtime.{object_of}
use Rattle.runtime_text.proofs.Naming.{objects_first, some_mapped}
use Rattle.runtime_text.proofs.named.are_objects.Goals as goal

pub members-preserved : goal.members-preserved
members-preserved c =
    let rest = c.next.new.self in
    let object : is_some (object_of (view c.in-Some.tree.now)) ≡ true =
    ap is_some (sym c.object_of.ensures) ∙ some_mapped (λ members. members_view members.now.entries) c.object_of.result ∙ c.is_none.ensures ∙ ap not c.if-is_none.false in
    c.members.invariant ∙ objects_first c.members.tree-iterator rest (c.in-Some.field-0-0.now, c.in-Some.tree.now) c.in-Some.ensures.steps ∙ ap (λ (b : Bool). b && are_objects (members_view rest)) object
