use Rattle.feed_csv.proofs.Parts.{cut_once, not_cut}
use Rattle.feed_csv.proofs.column.first_part.Goals as goal

pub returns-in-Some : goal.returns-in-Some
returns-in-Some c =
    let (front, behind, within) = (rw c.from.ensures at c.in-Some.ensures.byte) c.requires (λ w o found. found) in
    cut_once c.args.delimiter c.args.text.now _ _ front behind within

pub returns-in-None : goal.returns-in-None
returns-in-None c = not_cut c.args.delimiter c.args.text.now ((rw c.from.ensures at c.in-None.ensures.byte) c.requires (λ w o found. found))
