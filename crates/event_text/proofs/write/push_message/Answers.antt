use Rattle.std.proofs.Common.{ap, subst, true, ◌≡◌, ◌∙◌, ◌++◌}
use Rattle.std.specs.List.{list_all}
use Rattle.event_model.specs.Fields.{AreFields}
use Rattle.event_text.specs.Decode.{pairs_text}
use Rattle.event_text.specs.Strict.{is_utf8_pair}
use Rattle.event_text.proofs.MessageText.{message_text-parts, assembled}
use Rattle.event_text.proofs.write.push_message.Goals as goal

pub returns-clause-text : goal.returns-clause-text
returns-clause-text c =
    assembled c.args.out.now.items c.extend_from_slice.new.self.items c.push_pairs.new.out.items c.push.new.self.items _ _ _
    (c.in_ok-extend_from_slice.ensures.items ∙ ap (λ t. c.args.out.now.items ++ t) c.opening.ensures)
    (c.in_ok-push_pairs.ensures.text ∙ ap (λ pairs. c.extend_from_slice.new.self.items ++ pairs_text pairs) c.pairs.ensures.pairs)
    c.in_ok-push.ensures.items
    (message_text-parts c.args.message.now (subst AreFields c.pairs.ensures.pairs c.pairs.ensures.fields.fields))

pub returns-clause-typed : goal.returns-clause-typed
returns-clause-typed c =
    record {
      fields = subst AreFields c.pairs.ensures.pairs c.pairs.ensures.fields.fields;
      texts = subst (λ pairs. list_all is_utf8_pair pairs ≡ true) c.pairs.ensures.pairs c.in_ok-push_pairs.ensures.utf8;
    }
