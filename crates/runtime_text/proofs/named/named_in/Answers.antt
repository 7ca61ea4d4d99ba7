use Rattle.std.proofs.Common.{rules, ◌≡◌, List, ℕ, Option, option_map, sym, ap, subst, ◌∙◌}
use Rattle.std.specs.List.Sorted.{IsStrictlySortedBy}
use Rattle.base_types.proofs.Places.{order}
use Rattle.serde_json.specs.Data.{Members}
use Rattle.serde_json.specs.View.{view, members_view}
use Rattle.runtime_text.specs.Named.{file_named, named_from, with_file}
use Rattle.runtime_text.specs.Runtime.{global_key, object_under}
use Rattle.runtime_text.proofs.Naming.{named_first, no_names, rise_with_file}
use Rattle.runtime_text.proofs.named.named_in.Goals as goal

pub members-init : goal.members-init
members-init c = record { done = search rules; rise = subst (λ (ns : List (List ℕ)). IsStrictlySortedBy order ns) (sym c.new-names.ensures.items) no_names }

pub members-preserved : goal.members-preserved
members-preserved c =
    let global = object_under global_key (members_view c.args.members.now.entries) in
    let rest = c.next.new.self in
    let names = c.members.names.items in
    let name = c.as_str.result.now in
    let tree = view c.in-Some.tree.now in
    let found : option_map (λ n. n.now) c.file_named.result ≡ file_named global name tree = c.file_named.ensures ∙ ap (λ (ms : Members). file_named ms name tree) c.under-global.ensures in
    let put : c.put_file.new.names.items ≡ with_file (file_named global name tree) names = c.in_ok-put_file.ensures ∙ ap (λ (o : Option (List ℕ)). with_file o names) found in
    record {
      done = c.members.invariant.done ∙ named_first global names c.members.name-iterator rest (c.in-Some.name.now, c.in-Some.tree.now) name c.in-Some.ensures.steps c.as_str.ensures.value
          ∙ ap (λ (ns : List (List ℕ)). named_from global ns (members_view rest)) (sym put);
      rise = subst (λ (ns : List (List ℕ)). IsStrictlySortedBy order ns) (sym put) (rise_with_file (file_named global name tree) names c.members.invariant.rise);
    }
