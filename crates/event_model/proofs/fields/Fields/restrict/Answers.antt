use Rattle.std.proofs.Common.{filter, sym, ap, subst, ◌∙◌}
use Rattle.std.specs.FinMap.{from_entries}
use Rattle.event_model.specs.Edits.{is_kept}
use Rattle.event_model.specs.Fields.{AreFieldsInOrder}
use Rattle.event_model.proofs.Pairs.{Pairs, kept_of}
use Rattle.event_model.proofs.fields.Fields.restrict.Goals as goal

pub invariant_of-result : goal.invariant_of-result
invariant_of-result c =
    let is = c.in_ok-kept_pairs.ensures ∙ ap (λ (es : Pairs). filter (λ pair. is_kept c.args.keys.now c.args.keep pair.0) es) c.deref.ensures.value in
    subst AreFieldsInOrder (sym is) (kept_of (is_kept c.args.keys.now c.args.keep) c.self.inside.pairs.items c.args.self.now c.self.invariant c.self.view_is).order

pub returns : goal.returns
returns c =
    let is = c.in_ok-kept_pairs.ensures ∙ ap (λ (es : Pairs). filter (λ pair. is_kept c.args.keys.now c.args.keep pair.0) es) c.deref.ensures.value in
    ap from_entries is ∙ (kept_of (is_kept c.args.keys.now c.args.keep) c.self.inside.pairs.items c.args.self.now c.self.invariant c.self.view_is).map_is
