-- The laws of the rules of the tests.
use Rattle.std.proofs.Common.{◌≡◌, ◌∙◌, ℕ, Bool, true, false, List, [], ◌∷◌, Option, Some, None, cond, refl, sym, ap, subst, arith, find, codes, unwrap_or, option_and_then}
use Rattle.std.specs.Str.{bytes_eq}
use Rattle.std.specs.List.{AllByRecursion}
use Rattle.std.specs.List.Sorted.{IsStrictlySortedBy}
use Rattle.base_types.specs.declared.message.FaultNote.{FaultNote}
use Rattle.step_code.specs.declared.rules.Facts.{Facts}
use Rattle.step_code.specs.declared.rules.Given.{Given}
use Rattle.step_code.specs.declared.rules.Given.TheVariants as given
use Rattle.step_code.specs.Rules.{Task, AreSound, FitsBot, IsSoundBot, IsLawful, bot_named}
use Rattle.tests_rules.specs.Tiny.{meaning, bot_of, bots_of_bundle, collector, deduplicator, given_as, given_by, is_bad, is_body, is_faulty, note, other_bots, parser, passed_by, report, strict_deduplicator, thin_bots, tiny_bots, writer}

-- what holds of the bots of each bundle holds of those of any
of_each : (P : List Facts → Type 0) → P thin_bots → P tiny_bots → P other_bots → (a b c : Bool) (bots : List Facts)
    → cond a (Some thin_bots) (cond b (Some tiny_bots) (cond c (Some other_bots) None)) ≡ Some bots → P bots
of_each P thin tiny other true b c bots is = subst P (ap (λ o. unwrap_or o []) is) thin
of_each P thin tiny other false true c bots is = subst P (ap (λ o. unwrap_or o []) is) tiny
of_each P thin tiny other false false true bots is = subst P (ap (λ o. unwrap_or o []) is) other
of_each P thin tiny other false false false bots is = absurd (cc)

-- the same for a bundle
of_bundle : (P : List Facts → Type 0) → P thin_bots → P tiny_bots → P other_bots → (bundle : List ℕ) (bots : List Facts) → bots_of_bundle bundle ≡ Some bots → P bots
of_bundle P thin tiny other bundle bots loads =
    of_each P thin tiny other (bytes_eq bundle (codes "thin")) (bytes_eq bundle (codes "tiny")) (bytes_eq bundle (codes "other")) bots loads

collector_sound : (name file : List ℕ) (defaults : List (List ℕ)) → IsSoundBot (collector name file defaults)
collector_sound name file defaults =
    record { some_instance = omega arith; instances = omega arith; retries = omega arith; delay = omega arith; feed = refl; some_bytes = omega arith; chunk = omega arith; some_key = tt }

deduplicator_sound : IsSoundBot deduplicator
deduplicator_sound =
    record { some_instance = omega arith; instances = omega arith; retries = omega arith; delay = omega arith; feed = refl; some_bytes = tt; chunk = tt; some_key = omega arith }

strict_sound : IsSoundBot strict_deduplicator
strict_sound = record { some_instance = omega arith; instances = omega arith; retries = omega arith; delay = omega arith; feed = refl; some_bytes = tt; chunk = tt; some_key = omega arith }

parser_sound : IsSoundBot parser
parser_sound = record { some_instance = omega arith; instances = omega arith; retries = omega arith; delay = omega arith; feed = refl; some_bytes = tt; chunk = tt; some_key = tt }

writer_sound : (name : List ℕ) → IsSoundBot (writer name)
writer_sound name = record { some_instance = omega arith; instances = omega arith; retries = omega arith; delay = omega arith; feed = refl; some_bytes = tt; chunk = tt; some_key = tt }

thin_sound : AreSound thin_bots
unfolding IsStrictlySortedBy
thin_sound = record { order = ((refl, tt), (tt, tt)); each = (collector_sound _ _ _, (writer_sound _, tt)) }

tiny_sound : AreSound tiny_bots
unfolding IsStrictlySortedBy
tiny_sound = record {
  order = ((refl, (refl, (refl, tt))), ((refl, (refl, tt)), ((refl, tt), (tt, tt))));
  each = (collector_sound _ _ _, (deduplicator_sound, (parser_sound, (writer_sound _, tt))));
}

other_sound : AreSound other_bots
unfolding IsStrictlySortedBy
other_sound = record {
  order = ((refl, (refl, (refl, (refl, (refl, (refl, tt)))))), ((refl, (refl, (refl, (refl, (refl, tt))))), ((refl, (refl, (refl, (refl, tt)))), ((refl, (refl, (refl, tt))), ((refl, (refl, tt)), ((refl, tt), (tt, tt)))))));
  each = (writer_sound _, (collector_sound _ _ _, (strict_sound, (collector_sound _ _ _, (collector_sound _ _ _, (writer_sound _, (writer_sound _, tt)))))));
}

pub bots_are_sound : (bundle : List ℕ) (bots : List Facts) → bots_of_bundle bundle ≡ Some bots → AreSound bots
bots_are_sound bundle bots loads = of_bundle AreSound thin_sound tiny_sound other_sound bundle bots loads

either_body : (b : Bool) (x : ℕ) (xs : List ℕ) → is_body (cond b (x ∷ xs) (82 ∷ x ∷ xs)) ≡ true
either_body true x xs = refl
either_body false x xs = refl

pub reports_are_lawful : (piece : List ℕ) → IsLawful meaning (report piece)
reports_are_lawful [] = refl
reports_are_lawful (x ∷ xs) = either_body _ x xs

-- what a bot gives of this body fits it
abbrev Fine : List ℕ → Facts → Type 0
Fine body f = FitsBot meaning f (given_by f.role body)

-- a fault fits any bot
or_fault : (f : Facts) (some : Given) (faulty : Bool) → FitsBot meaning f some → FitsBot meaning f (cond faulty (given.Fault note) some)
or_fault f some true fits = tt
or_fault f some false fits = fits

here : (P : Facts → Type 0) (f x : Facts) (rest : Option Facts) → P x → (rest ≡ Some f → P f) → (b : Bool) → cond b (Some x) rest ≡ Some f → P f
here P f x rest holds others true is = subst P (ap (λ o. unwrap_or o x) is) holds
here P f x rest holds others false is = others is

found_fine : (P : Facts → Type 0) (p : Facts → Bool) (f : Facts) (bots : List Facts) → AllByRecursion P bots → find p bots ≡ Some f → P f
found_fine P p f [] all is = absurd (cc)
found_fine P p f (x ∷ xs) all is = here P f x (find p xs) all.0 (found_fine P p f xs all.1) (p x) is

bad_fine : (body : List ℕ) (b : Bool) → is_bad body ≡ b → AllByRecursion (λ (dump : List ℕ × FaultNote). IsLawful meaning dump.0) (cond b ((body, note) ∷ []) [])
bad_fine [] true bad = absurd (cc)
bad_fine (x ∷ xs) true bad = (refl, tt)
bad_fine body false bad = tt

collector_fine : (body name file : List ℕ) (defaults : List (List ℕ)) → Fine body (collector name file defaults)
collector_fine body name file defaults = or_fault (collector name file defaults) (passed_by (collector name file defaults).role body) (is_faulty body) tt

deduplicator_fine : (body : List ℕ) → Fine body deduplicator
deduplicator_fine body = or_fault deduplicator (passed_by deduplicator.role body) (is_faulty body) ((refl, tt), tt, λ is. is, λ is. is)

strict_fine : (body : List ℕ) → Fine body strict_deduplicator
strict_fine body = or_fault strict_deduplicator (passed_by strict_deduplicator.role body) (is_faulty body) ((refl, tt), tt, λ is. is, λ is. is)

parser_fine : (body : List ℕ) → Fine body parser
parser_fine body = or_fault parser (passed_by parser.role body) (is_faulty body) ((refl, tt), bad_fine body (is_bad body) refl, λ is. is, λ is. is)

writer_fine : (body name : List ℕ) → Fine body (writer name)
writer_fine body name = or_fault (writer name) (passed_by (writer name).role body) (is_faulty body) (tt, tt, λ is. is, λ is. is)

thin_fine : (body : List ℕ) → AllByRecursion (Fine body) thin_bots
thin_fine body = (collector_fine body (codes "collect") (codes "feed.csv") (codes "write-queue" ∷ []), (writer_fine body (codes "write"), tt))

tiny_fine : (body : List ℕ) → AllByRecursion (Fine body) tiny_bots
tiny_fine body = (
  collector_fine body (codes "collect") (codes "feed.csv") (codes "parse-queue" ∷ codes "write-queue" ∷ []),
  (deduplicator_fine body, (parser_fine body, (writer_fine body (codes "write"), tt))),
)

other_fine : (body : List ℕ) → AllByRecursion (Fine body) other_bots
other_fine body = (
  writer_fine body (codes "archive"),
  (
    collector_fine body (codes "collect") (codes "other.csv") (codes "dedup-queue" ∷ []),
    (
      strict_fine body,
      (
        collector_fine body (codes "fetch") (codes "fetch.csv") (codes "write-queue" ∷ []),
        (
          collector_fine body (codes "gather") (codes "gather.csv") (codes "store-queue" ∷ []),
          (writer_fine body (codes "store"), (writer_fine body (codes "write"), tt)),
        ),
      ),
    ),
  ),
)

pub given_fits : (bots : List Facts) (facts : Facts) (task : Task) (body : List ℕ) → bots_of_bundle task.bundle ≡ Some bots → bot_named task.bot bots ≡ Some facts
    → FitsBot meaning facts (given_as (bot_of task) body)
given_fits bots facts task body loads named =
    let all : AllByRecursion (Fine body) bots = of_bundle (AllByRecursion (Fine body)) (thin_fine body) (tiny_fine body) (other_fine body) task.bundle bots loads in
    let bot : bot_of task ≡ Some facts = ap (option_and_then (bot_named task.bot)) loads ∙ named in
    subst (λ o. FitsBot meaning facts (given_as o body)) (sym bot) (found_fine (Fine body) (λ f. bytes_eq f.bot task.bot) facts bots all named)
