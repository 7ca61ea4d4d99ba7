-- The lengths of the bodies in live queues, queue by queue.
use Rattle.std.proofs.Common.{◌≡◌, ◌+◌, ◌<◌, ℕ, Bool, true, false, cond, List, [], ◌∷◌, ◌++◌, length, filter, get_or, min, sum_by, take, refl, sym, ◌∙◌, ap, arith, if◌then◌else◌}
use Rattle.std.proofs.lemmas.List.{take_more}
use Rattle.std.proofs.lemmas.List.Sums.{sum_by-append}
use Rattle.base_types.specs.Number.{last_u64}
use Rattle.stored_types.specs.declared.queue.Queue.{Queue}
use Rattle.stored_types.specs.Queue.{bytes_in}
use Rattle.step_code.specs.declared.rules.Facts.{Facts}
use Rattle.step_code.specs.State.{is_live_queue, live_bytes}

live_push : (bots : List Facts) (queues : List Queue) (q : Queue) → live_bytes bots (queues ++ q ∷ []) ≡ live_bytes bots queues + (if is_live_queue bots q.name then bytes_in q else 0)
live_push bots [] q = go (is_live_queue bots q.name)
  where
    go : (live : Bool) → sum_by bytes_in (cond live (q ∷ []) []) ≡ 0 + (if live then bytes_in q else 0)
    go true = omega arith
    go false = refl
live_push bots (x ∷ queues) q = go (is_live_queue bots x.name) (live_push bots queues q)
  where
    go : (live : Bool) → live_bytes bots (queues ++ q ∷ []) ≡ live_bytes bots queues + (if is_live_queue bots q.name then bytes_in q else 0)
        → sum_by bytes_in (cond live (x ∷ filter (λ q. is_live_queue bots q.name) (queues ++ q ∷ [])) (filter (λ q. is_live_queue bots q.name) (queues ++ q ∷ [])))
        ≡ sum_by bytes_in (cond live (x ∷ filter (λ q. is_live_queue bots q.name) queues) (filter (λ q. is_live_queue bots q.name) queues)) + (if is_live_queue bots q.name then bytes_in q else 0)
    go true later =
        let here = sum_by bytes_in (x ∷ []) in
        let before = live_bytes bots queues in
        let more = if is_live_queue bots q.name then bytes_in q else 0 in
        let apart : here + (before + more) ≡ here + before + more = omega arith in
        sum_by-append bytes_in (x ∷ []) (filter (λ q. is_live_queue bots q.name) (queues ++ q ∷ [])) ∙ ap (λ n. here + n) later ∙ apart
        ∙ ap (λ n. n + more) (sym (sum_by-append bytes_in (x ∷ []) (filter (λ q. is_live_queue bots q.name) queues)))
    go false later = later

-- the sum goes on with the queue at the next place
pub live_next : (bots : List Facts) (queues : List Queue) (k bytes more sum : ℕ) → k < length queues → bytes ≡ min (live_bytes bots (take k queues)) last_u64
    → ((d : Queue) → more ≡ min (if is_live_queue bots (get_or queues k d).name then bytes_in (get_or queues k d) else 0) last_u64) → sum ≡ min (bytes + more) last_u64
    → sum ≡ min (live_bytes bots (take (k + 1) queues)) last_u64
live_next bots [] k bytes more sum inside is next total = absurd (omega (arith, inside))
live_next bots (x ∷ queues) k bytes more sum inside is next total =
    let q = get_or (x ∷ queues) k x in
    let whole : live_bytes bots (take (k + 1) (x ∷ queues)) ≡ live_bytes bots (take k (x ∷ queues)) + (if is_live_queue bots q.name then bytes_in q else 0) =
    ap (live_bytes bots) (take_more (x ∷ queues) k x inside) ∙ live_push bots (take k (x ∷ queues)) q in
    omega (arith, is, next x, total, whole)
