use Rattle.std.proofs.Common.{None, lit<}
use Rattle.std.proofs.lemmas.Str.Pattern.{strip_suffix_char}
use Rattle.scalar_text.proofs.Ends.{before_blank_is}
use Rattle.scalar_text.proofs.blanks.before_blank.Goals as goal

pub returns-in-None : goal.returns-in-None
returns-in-None c =
    before_blank_is c.args.text.now c.strip_suffix-in-None.result
    (strip_suffix_char 32 c.args.text.now None c.in-None.ensures.cases (lit< tt))
    (strip_suffix_char 9 c.args.text.now c.strip_suffix-in-None.result c.strip_suffix-in-None.ensures.cases (lit< tt))
