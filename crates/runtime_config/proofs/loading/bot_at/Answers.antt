use Rattle.std.proofs.Common.{◌≡◌, ◌<◌, ◌++◌, ◌∷◌, [], List, Some, OnOk, length, take, get_or, ap, sym, subst, ◌∙◌}
use Rattle.std.proofs.Math.ListN.{get_or-map}
use Rattle.std.proofs.lemmas.List.{length-map, take-map}
use Rattle.std.proofs.lemmas.Option.{get_or_from_slice_get, slice_get-get_or}
use Rattle.runtime_config.proofs.Loads.{one_more_taken}
use Rattle.runtime_text.specs.Read.{entries_of, entry_of}
use Rattle.runtime_text.specs.Runtime.{Entry}
use Rattle.runtime_config.specs.Whole.{AreSumsOver, IsPlannedThere}
use Rattle.runtime_config.proofs.loading.bot_at.Goals as goal

pub load_bot-requires-clause-sums : goal.load_bot-requires-clause-sums
load_bot-requires-clause-sums c =
    let w = c.args.whole.now in
    subst (λ (bots : List Entry). AreSumsOver w bots c.args.sums.now) (take-map entry_of c.args.at w.bots.now) c.requires.sums

pub returns-clause-found : goal.returns-clause-found
returns-clause-found c = λ bot is.
    let w = c.args.whole.now in
    let one = get_or w.bots.now c.args.at c.index-whole-at.result in
    let same : entry_of one ≡ bot =
    sym (get_or-map entry_of w.bots.now c.args.at c.index-whole-at.result)
    ∙ get_or_from_slice_get (entries_of w.bots.now) c.args.at bot (entry_of c.index-whole-at.result) is in
    subst (λ (e : Entry). IsPlannedThere w (take c.args.at (entries_of w.bots.now)) e c.load_bot.result) same
    (subst (λ (bots : List Entry). IsPlannedThere w bots (entry_of one) c.load_bot.result) (sym (take-map entry_of c.args.at w.bots.now)) c.load_bot.ensures.found)

pub returns-clause-sums : goal.returns-clause-sums
returns-clause-sums c =
    let w = c.args.whole.now in
    let one = get_or w.bots.now c.args.at c.index-whole-at.result in
    let bots = entries_of w.bots.now in
    let within : c.args.at < length bots = subst (λ n. c.args.at < n) (sym (length-map w.bots.now entry_of)) c.requires.place in
    let there =
    slice_get-get_or bots c.args.at (entry_of c.index-whole-at.result) within
    ∙ ap (λ (e : Entry). Some e) (get_or-map entry_of w.bots.now c.args.at c.index-whole-at.result) in
    subst (λ (more : List Entry). OnOk c.load_bot.result (AreSumsOver w more c.load_bot.new.sums))
    (ap (λ (front : List Entry). front ++ entry_of one ∷ []) (sym (take-map entry_of c.args.at w.bots.now)) ∙ one_more_taken bots c.args.at (entry_of one) within there)
    c.load_bot.ensures.sums
