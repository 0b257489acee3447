use Rattle.std.proofs.lemmas.Grind.{common_steps}
use Rattle.std.proofs.Common.{◌∙◌, ap, map, arith}
use Rattle.nd_json.specs.Forms.{same_texts}
use Rattle.nd_json.proofs.Keys.{has_keys-object, has_keys-no_object, keys_of-members_view}
use Rattle.nd_json.proofs.object.has_keys.Goals as goal

pub keys-init : goal.keys-init
keys-init c = rw (c.into_iter-key-iterator.ensures.into_iter_gives, c.keys-key-items.ensures.rest, c.iter-wanted.ensures.rest)
    (has_keys-object _ _ _ c.in-Some.ensures ∙ ap (λ ks. same_texts ks (map (λ k. k.now) c.args.keys.now)) (keys_of-members_view c.in-Some.members.now.entries))

pub returns-in_default : goal.returns-in_default
returns-in_default c = has_keys-no_object _ _ c.in_default.ensures

pub returns : goal.returns
returns c = grind (arith, common_steps)
