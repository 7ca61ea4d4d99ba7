use Rattle.std.proofs.Common.{◌∙◌, rules}
use Rattle.std.specs.Ordering.{nat_cmp}
use Rattle.std.proofs.lemmas.Fn.{always_returns_same}
use Rattle.stored_types.specs.declared.message.Dump.{Dump}
use Rattle.dump_store.proofs.Rising.{searched}
use Rattle.dump_store.proofs.dumps.place_of.Goals as goal

pub returns : goal.returns
returns c =
    c.ok.ensures.value
    ∙ searched c.args.no c.args.dumps.now c.binary_search_by.result c.requires c.binary_search_by.ensures.bound
    (c.binary_search_by.ensures.position (λ (d : Dump). nat_cmp d.no c.args.no) (always_returns_same _ _ _ (λ a r g called. (search rules, search rules))))
