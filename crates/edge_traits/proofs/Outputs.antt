-- What a sink has taken after several writes.
use Rattle.std.proofs.Common.{◌≡◌, ℕ, List, [], ◌++◌, refl, sym, ◌∙◌, ap, subst, append_assoc, Some}
use Rattle.std.proofs.lemmas.List.{append-nil}
use Rattle.edge_traits.specs.Sink.{SinkView, Took}
use Rattle.edge_traits.specs.Output.{TookFront, Moved}

pub Took-nothing : (sink : SinkView) → Took sink sink []
Took-nothing sink = record { taken = λ before told. told ∙ ap (λ l. Some l) (sym (append-nil before)) }

pub Took-then : {a b c : SinkView} {xs ys : List ℕ} → Took a b xs → Took b c ys → Took a c (xs ++ ys)
Took-then {xs = xs} {ys = ys} first next =
    record { taken = λ before told. next.taken (before ++ xs) (first.taken before told) ∙ ap (λ l. Some l) (append_assoc before xs ys) }

pub Moved-start : (sink : SinkView) (whole : List ℕ) → Moved sink sink whole whole
Moved-start sink whole = record { front = []; whole_is = refl; took = Took-nothing sink }

-- a front of what was left is written
pub Moved-write : {a b c : SinkView} {whole rest front more : List ℕ} → Moved a b whole rest → Took b c front → rest ≡ front ++ more → Moved a c whole more
Moved-write {front = front} {more = more} moved took e =
    record {
      front = moved.front ++ front;
      whole_is = moved.whole_is ∙ ap (λ l. moved.front ++ l) e ∙ sym (append_assoc moved.front front more);
      took = Took-then moved.took took;
    }

-- a buffer is written, except for what is kept in it
pub Moved-through : {a b c : SinkView} {whole buffer kept : List ℕ} (later : List ℕ) → Moved a b whole (buffer ++ later) → Moved b c buffer kept → Moved a c whole (kept ++ later)
Moved-through {kept = kept} later first next =
    Moved-write first next.took (ap (λ l. l ++ later) next.whole_is ∙ append_assoc next.front kept later)

pub Moved-all : {a b c : SinkView} {whole rest : List ℕ} → Moved a b whole rest → Took b c rest → Took a c whole
Moved-all {a = a} {c = c} moved took = subst (λ l. Took a c l) (sym moved.whole_is) (Took-then moved.took took)

pub TookFront-none : {a b : SinkView} {whole rest : List ℕ} → Moved a b whole rest → TookFront a b whole
TookFront-none {rest = rest} moved = record { front = moved.front; rest = rest; whole_is = moved.whole_is; took = moved.took }

-- a front of what was left in the buffer is written
pub TookFront-some : {a b c : SinkView} {whole buffer : List ℕ} (later : List ℕ) → Moved a b whole (buffer ++ later) → TookFront b c buffer → TookFront a c whole
TookFront-some later moved next =
    TookFront-none (Moved-write {more = next.rest ++ later} moved next.took (ap (λ l. l ++ later) next.whole_is ∙ append_assoc next.front next.rest later))

pub TookFront-rest : {a b c : SinkView} {whole rest : List ℕ} → Moved a b whole rest → TookFront b c rest → TookFront a c whole
TookFront-rest moved next = TookFront-none (Moved-write moved next.took next.whole_is)

-- a buffer that was empty at first is written whole, or as far as the sink takes it
pub buffer_written : (a b c : SinkView) (before whole rest : List ℕ) → Moved a b (before ++ whole) rest → before ≡ [] → Took b c rest → Took a c whole
buffer_written a b c before whole rest moved empty took = Moved-all (subst (λ l. Moved a b (l ++ whole) rest) empty moved) took

pub buffer_stopped : (a b c : SinkView) (before whole rest : List ℕ) → Moved a b (before ++ whole) rest → before ≡ [] → TookFront b c rest → TookFront a c whole
buffer_stopped a b c before whole rest moved empty front = TookFront-rest (subst (λ l. Moved a b (l ++ whole) rest) empty moved) front

-- a front of the first bytes is a front of more
pub TookFront-longer : {a b : SinkView} {bytes : List ℕ} (later : List ℕ) → TookFront a b bytes → TookFront a b (bytes ++ later)
TookFront-longer later took =
    record { front = took.front; rest = took.rest ++ later; whole_is = ap (λ l. l ++ later) took.whole_is ∙ append_assoc took.front took.rest later; took = took.took }
