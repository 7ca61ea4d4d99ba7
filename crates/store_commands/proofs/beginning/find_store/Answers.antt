use Rattle.std.proofs.Common.{refl, ◌∙◌}
use Rattle.edge_traits.proofs.Moments.{goes_on, started}
use Rattle.store_commands.proofs.beginning.find_store.Goals as goal

pub returns-clause-stands : goal.returns-clause-stands
returns-clause-stands g c = λ m first steps more was. record {
  any_moment = goes_on (started (λ image left. was.each image (g.met.D.Disk.only_now c.args.disk.now image left))) c.len.ensures.time (λ image now. was.each image (λ file. c.len.ensures.crash file tt (image file) (now file)));
  now = record { files = was.files; tells = c.len.ensures.told ∙ was.tells; each = λ image left. was.each image (λ file. c.len.ensures.crash file tt (image file) (left file)) };
}

pub returns-clause-others : goal.returns-clause-others
returns-clause-others g c = record {
  told = λ files told. (files, c.len.ensures.told ∙ told, λ other here. refl);
  now = λ file here content left. c.len.ensures.crash file tt content left;
  any_moment = goes_on (started (λ image left other here. g.met.D.Disk.only_now c.args.disk.now image left other)) c.len.ensures.time (λ image now other here. c.len.ensures.crash other tt (image other) (now other));
}
