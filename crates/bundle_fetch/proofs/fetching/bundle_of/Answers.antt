use Rattle.std.proofs.Common.{◌≡◌, ◌<◌, ◌^◌, length, ap, ◌∙◌, arith}
use Rattle.runtime_text.specs.Named.{named_files}
use Rattle.runtime_text.proofs.Naming.{named_rise, named_short}
use Rattle.bundle_fetch.proofs.Coded.{is_bundle}
use Rattle.bundle_fetch.proofs.Files.{bundle_there, file_lacks, runtime_lacks}
use Rattle.bundle_fetch.proofs.fetching.bundle_of.Goals as goal

pub returns-in-Ok-fetch_files-clause-coded : goal.returns-in-Ok-fetch_files-clause-coded
returns-in-Ok-fetch_files-clause-coded g c =
    let runtime = c.in-Ok.runtime in
    let names : c.in_ok-names.names ≡ named_files runtime = c.in_ok-names.ensures ∙ ap named_files c.bytes.ensures in
    let few : length (named_files runtime) < 2 ^ 32 = omega (arith, c.if-len-ge-MOST_FILES.false, c.len.ensures, ap length names) in
    is_bundle (record { runtime = runtime; files = c.in-Ok-fetch_files.files }) (named_files runtime) c.in-Ok.ensures.within (c.in-Ok-fetch_files.ensures.names ∙ names) (named_rise runtime) (named_short runtime)
    c.in-Ok-fetch_files.ensures.each few

pub returns-in-Ok-fetch_files-clause-fetched : goal.returns-in-Ok-fetch_files-clause-fetched
returns-in-Ok-fetch_files-clause-fetched g c = λ shelf told.
    bundle_there shelf c.args.name.now c.in-Ok.runtime c.in_ok-names.names c.in-Ok-fetch_files.files (c.in-Ok.ensures.front shelf told) (c.in_ok-names.ensures ∙ ap named_files c.bytes.ensures)
    (c.in-Ok-fetch_files.ensures.files shelf (c.fetch_front.ensures.told ∙ told))

pub returns-in-Err-clause-fetched : goal.returns-in-Err-clause-fetched
returns-in-Err-clause-fetched g c = λ shelf told. runtime_lacks shelf c.args.name.now c.in-Err.fault (c.in-Err.ensures.front shelf told)

pub returns-in-Err-fetch_files-clause-fetched : goal.returns-in-Err-fetch_files-clause-fetched
returns-in-Err-fetch_files-clause-fetched g c = λ shelf told.
    file_lacks shelf c.args.name.now c.in-Ok.runtime c.in_ok-names.names c.in-Err-fetch_files.fault (c.in-Ok.ensures.front shelf told) (c.in_ok-names.ensures ∙ ap named_files c.bytes.ensures)
    (c.in-Err-fetch_files.ensures.files shelf (c.fetch_front.ensures.told ∙ told))

pub returns-in-Ok-fetch_files-clause-named : goal.returns-in-Ok-fetch_files-clause-named
returns-in-Ok-fetch_files-clause-named g c = c.in-Ok-fetch_files.ensures.names ∙ c.in_ok-names.ensures ∙ ap named_files c.bytes.ensures
