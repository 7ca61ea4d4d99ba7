use Rattle.std.proofs.Common.{◌≡◌, ◌<◌, ◌++◌, ◌∷◌, [], List, ℕ, length, take, get_or, sym, ap, subst, ◌∙◌, arith}
use Rattle.std.proofs.lemmas.List.{take_more}
use Rattle.base_types.specs.Lists.{IsIn}
use Rattle.bundle_fetch.proofs.Coded.{each_more, names_more}
use Rattle.bundle_fetch.proofs.Files.{in_list, one_more, stopped}
use Rattle.bundle_fetch.proofs.fetching.fetch_files.Goals as goal

pub names-preserved : goal.names-preserved
names-preserved g c =
    let names = c.args.names.now in
    let i = c.names.name-index in
    let name = c.name-item.result in
    let all = c.as_slice-name-items.ensures in
    let within : i < length names = subst (λ (ns : List (List ℕ)). i < length ns) all c.names-test.true in
    let at : name ≡ get_or names i name = c.name-item.is ∙ ap (λ (ns : List (List ℕ)). get_or ns i name) all in
    let pushed = c.in_ok-push_file-in-Ok.ensures.pushed in
    record {
      told = c.fetch_front.ensures.told ∙ c.names.invariant.told;
      counts = λ other. omega (arith, c.names.invariant.counts other, c.fetch_front.ensures.counts other);
      others = λ other outside.
          c.fetch_front.ensures.other_counts other (λ same. outside (subst (λ (n : List ℕ). IsIn n names) (sym same) (in_list names i name within at))) ∙ c.names.invariant.others other outside;
      names = names_more c.names.files c.push_file.new.files names i name c.in-Ok.content pushed c.names.invariant.names (take_more names i name within ∙ ap (λ (n : List ℕ). take i names ++ n ∷ []) (sym at));
      each = each_more c.names.files c.push_file.new.files name c.in-Ok.content pushed c.names.invariant.each (c.push_file.ensures.text, c.in-Ok.ensures.within);
      fetched = λ shelf told. one_more shelf names i name c.in-Ok.content _ c.names.files c.push_file.new.files within at (c.in-Ok.ensures.front shelf (c.names.invariant.told ∙ told)) pushed (c.names.invariant.fetched shelf told);
    }

pub returns-in_err-push_file-in-Ok-clause-other_counts : goal.returns-in_err-push_file-in-Ok-clause-other_counts
returns-in_err-push_file-in-Ok-clause-other_counts g c = λ other outside.
    let names = c.args.names.now in
    let i = c.names.name-index in
    let name = c.name-item.result in
    let all = c.as_slice-name-items.ensures in
    let within : i < length names = subst (λ (ns : List (List ℕ)). i < length ns) all c.names-test.true in
    let at : name ≡ get_or names i name = c.name-item.is ∙ ap (λ (ns : List (List ℕ)). get_or ns i name) all in
    c.fetch_front.ensures.other_counts other (λ same. outside (subst (λ (n : List ℕ). IsIn n names) (sym same) (in_list names i name within at))) ∙ c.names.invariant.others other outside

pub returns-in-Err-clause-other_counts : goal.returns-in-Err-clause-other_counts
returns-in-Err-clause-other_counts g c = λ other outside.
    let names = c.args.names.now in
    let i = c.names.name-index in
    let name = c.name-item.result in
    let all = c.as_slice-name-items.ensures in
    let within : i < length names = subst (λ (ns : List (List ℕ)). i < length ns) all c.names-test.true in
    let at : name ≡ get_or names i name = c.name-item.is ∙ ap (λ (ns : List (List ℕ)). get_or ns i name) all in
    c.fetch_front.ensures.other_counts other (λ same. outside (subst (λ (n : List ℕ). IsIn n names) (sym same) (in_list names i name within at))) ∙ c.names.invariant.others other outside

pub returns-in-Err-clause-files : goal.returns-in-Err-clause-files
returns-in-Err-clause-files g c = λ shelf told.
    let names = c.args.names.now in
    let i = c.names.name-index in
    let name = c.name-item.result in
    let all = c.as_slice-name-items.ensures in
    let within : i < length names = subst (λ (ns : List (List ℕ)). i < length ns) all c.names-test.true in
    let at : name ≡ get_or names i name = c.name-item.is ∙ ap (λ (ns : List (List ℕ)). get_or ns i name) all in
    stopped shelf names i name _ c.names.files c.in-Err.fault within at (c.in-Err.ensures.front shelf (c.names.invariant.told ∙ told)) (c.names.invariant.fetched shelf told)
