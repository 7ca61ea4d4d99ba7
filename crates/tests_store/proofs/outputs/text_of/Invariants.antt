use Rattle.std.proofs.Common.{◌≡◌, take}
use Rattle.out_files.specs.Output.{lines_text}
use Rattle.tests_store.proofs.outputs.text_of.Given as goal

abbrev pub invariant-lines : goal.invariant-lines
invariant-lines l = l.text.items ≡ lines_text (take l.line-index l.line-items)
