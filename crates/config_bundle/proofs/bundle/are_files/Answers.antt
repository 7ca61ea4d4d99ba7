use Rattle.config_bundle.proofs.Files.{one_more}
use Rattle.config_bundle.proofs.bundle.are_files.Goals as goal

pub files-preserved : goal.files-preserved
files-preserved c = one_more c.args.files.now c.files.file-index c.file-item.result c.files-test.true c.file-item.is (c.is_file.ensures.0 c.if-not-is_file.false) c.files.invariant
