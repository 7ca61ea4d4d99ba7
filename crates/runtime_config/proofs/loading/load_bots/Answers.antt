use Rattle.std.proofs.Common.{◌<◌, length, get_or, refl, sym, subst, ◌∙◌, arith}
use Rattle.std.proofs.lemmas.List.{length-map}
use Rattle.std.proofs.lemmas.Option.{slice_get-get_or}
use Rattle.runtime_config.proofs.Faulty.{first_fault_is, same_fault}
use Rattle.runtime_config.proofs.Loads.{next_fault, next_planned, none_first}
use Rattle.runtime_config.proofs.KnownPaths.{no_entry}
use Rattle.runtime_config.specs.Faults.{first_fault}
use Rattle.runtime_config.specs.Load.{planned}
use Rattle.runtime_text.specs.Read.{entries_of, entry_of, members_of}
use Rattle.runtime_config.specs.Whole.{runtime_as}
use Rattle.runtime_config.proofs.loading.load_bots.Goals as goal

pub bots-init : goal.bots-init
unfolding first_fault
bots-init c = record {
  done = c.new-bots.ensures;
  faults = refl;
  sums = record {
    sums = record {
      instances_are = c.new-sums.ensures.instances;
      rows_are = c.new-sums.ensures.rows;
      files_are = c.new-sums.ensures.files;
      bytes_are = omega (arith, c.new-sums.ensures.bytes);
    };
    small = record {
      few_instances = omega (arith, c.new-sums.ensures.instances);
      few_rows = omega (arith, c.new-sums.ensures.rows);
      short = omega (arith, c.new-sums.ensures.bytes, c.requires.short);
    };
  };
}

pub returns-in-Err : goal.returns-in-Err
returns-in-Err c =
    let w = c.args.whole.now in
    let bots = entries_of w.bots.now in
    let at = c.bots.at in
    let within : at < length bots = subst (λ n. at < n) (sym (length-map w.bots.now entry_of)) c.bots-test.true in
    let bot = get_or bots at no_entry in
    let there = slice_get-get_or bots at no_entry within in
    same_fault _ _ c.in-Err.fault (sym (next_fault w.bundle.now (runtime_as w) bots at bot within there) ∙ c.bots.invariant.faults)
    (first_fault_is _ _ c.in-Err.fault (c.in-Err.ensures.found bot there))

pub bots-preserved : goal.bots-preserved
bots-preserved c =
    let w = c.args.whole.now in
    let bots = entries_of w.bots.now in
    let at = c.bots.at in
    let within : at < length bots = subst (λ n. at < n) (sym (length-map w.bots.now entry_of)) c.bots-test.true in
    let bot = get_or bots at no_entry in
    let there = slice_get-get_or bots at no_entry within in
    let found = c.in-Ok.ensures.found bot there in
    record {
      done = next_planned (planned w.bundle.now (members_of w.global.now)) bots at bot c.bots.bots c.push_planned.new.bots c.in-Ok.planned within there c.bots.invariant.done c.in_ok-push_planned-in-Ok.ensures found.1;
      faults = none_first _ _ _ found.0 (sym (next_fault w.bundle.now (runtime_as w) bots at bot within there) ∙ c.bots.invariant.faults);
      sums = c.in-Ok.ensures.sums;
    }
