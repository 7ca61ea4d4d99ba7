use Rattle.std.proofs.Common.{◌≡◌, []}
use Rattle.std.specs.List.Sorted.{IsStrictlySortedBy}
use Rattle.serde_json.specs.View.{members_view}
use Rattle.base_types.proofs.Places.{order}
use Rattle.runtime_text.specs.Named.{named_from}
use Rattle.runtime_text.specs.Runtime.{global_key, object_under}
use Rattle.runtime_text.proofs.named.named_in.Given as goal

abbrev pub invariant-members : goal.invariant-members
invariant-members l = record {
  done :
      let global = object_under global_key (members_view l.members.entries) in
      named_from global [] (members_view l.members.entries) ≡ named_from global l.names.items (members_view l.name-iterator);
  rise : IsStrictlySortedBy order l.names.items;
}
