use Rattle.store_audit.proofs.Following.{small_text}
use Rattle.store_audit.proofs.sealed.has_sealed.Goals as goal

pub has_front-requires : goal.has_front-requires
has_front-requires g c = record { small = small_text c.args.before.now.state.outs c.args.k c.out_at-out.result.sealed_bytes c.out_at-out.result.lines.now _ _ c.requires.before c.requires.small c.out_at-out.ensures }
