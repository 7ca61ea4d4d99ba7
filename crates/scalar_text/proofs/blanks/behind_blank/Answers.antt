use Rattle.std.proofs.Common.{None, lit<}
use Rattle.std.proofs.lemmas.Str.Pattern.{strip_prefix_char}
use Rattle.scalar_text.proofs.Ends.{behind_blank_is}
use Rattle.scalar_text.proofs.blanks.behind_blank.Goals as goal

pub returns-in-None : goal.returns-in-None
returns-in-None c =
    behind_blank_is c.args.text.now c.strip_prefix-in-None.result
    (strip_prefix_char 32 c.args.text.now None c.in-None.ensures.cases (lit< tt))
    (strip_prefix_char 9 c.args.text.now c.strip_prefix-in-None.result c.strip_prefix-in-None.ensures.cases (lit< tt))
