use Rattle.std.proofs.Common.{List, ℕ, true, arith, sym, ap, subst, codes, ◌++◌, ◌⊎◌, ◌≡◌, ◌∙◌}
use Rattle.std.proofs.lemmas.Str.{is_utf8-from_IsUtf8}
use Rattle.std.proofs.lemmas.Bool.{true≢false}
use Rattle.std.proofs.lemmas.List.Sums.{prefix_len-le-length}
use Rattle.std.specs.List.{list_all}
use Rattle.std.specs.Prelude.{nat_lt}
use Rattle.url.specs.Input.{rsplit_once}
use Rattle.scalar_net.specs.PlainUrl.{begins_with_letter, ends_host, is_host_byte}
use Rattle.scalar_net.proofs.PlainUrls.{is_canonical}
use Rattle.scalar_net.proofs.plain_url.is_plain_url.Goals as goal
use Rattle.scalar_net.proofs.plain_url.is_plain_url.Goals.{then-has_name, else-has_name}

pub split_at-requires : goal.split_at-requires
split_at-requires c = omega (arith, c.host_len.ensures, prefix_len-le-length is_host_byte c.in-Some.rest.now)

pub returns-then-ends_host : goal.returns-then-ends_host
returns-then-ends_host c visible =
    let text = c.args.text.now in
    let rest = c.in-Some.rest.now in
    let n = c.host_len.result in
    let is_text = c.as_bytes-bytes.ensures.value in
    let all : list_all (nat_lt 32) text ≡ true = ap (list_all (nat_lt 32)) (sym is_text) ∙ sym c.are_visible.ensures ∙ visible in
    elim c.if-has_name.branch [
      | then-has_name w ↦
          is_canonical text rest n (subst (λ (t : List ℕ). (t ≡ codes "https://" ++ rest) ⊎ (t ≡ codes "http://" ++ rest)) is_text c.in-Some.ensures) (is_utf8-from_IsUtf8 text c.utf8.text) c.host_len.ensures
          (ap (λ l. begins_with_letter (rsplit_once 46 l).1) (sym c.split_at.ensures.front) ∙ sym c.has_name.ensures ∙ w.if-has_name.true)
          (ap ends_host (sym c.split_at.ensures.back) ∙ sym w.ends_host.ensures ∙ sym w.value-is ∙ c.if-ends_host.true) all
      | else-has_name w ↦ absurd (true≢false (sym c.if-ends_host.true ∙ w.value-is ∙ w.if-has_name.false))
    ]
