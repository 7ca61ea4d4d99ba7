use Rattle.std.proofs.Common.{◌≡◌, ◌<◌, length, get_or, ap, sym, ◌∙◌}
use Rattle.std.proofs.Math.ListN.{get_or-map}
use Rattle.std.proofs.lemmas.List.{get_or_default, length-map}
use Rattle.base_types.specs.Name.{queue_name}
use Rattle.runtime_text.specs.Read.{entries_of, entry_of}
use Rattle.runtime_text.specs.Runtime.{Entry}
use Rattle.runtime_config.proofs.paths.queue_at.Goals as goal

pub returns : goal.returns
returns c = λ d.
    let bots = c.args.bots.now in
    let i = c.args.i in
    let bot = c.index-bots-i.result in
    let within : i < length (entries_of bots) = rw (length-map bots entry_of) c.requires in
    let read : entry_of bot ≡ get_or (entries_of bots) i d =
    ap entry_of c.index-bots-i.is ∙ sym (get_or-map entry_of bots i bot) ∙ get_or_default (entries_of bots) i (entry_of bot) d within in
    c.queue_of.ensures ∙ ap queue_name c.name.ensures ∙ ap (λ (e : Entry). queue_name e.0) read
