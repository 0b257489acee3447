use Rattle.std.proofs.Common.{refl}
use Rattle.rewind_forms.specs.Grammar.{steps}
use Rattle.rewind_forms.proofs.form.step_form.Goals as goal

pub returns-in-send-4 : goal.returns-in-send-4
unfolding steps
returns-in-send-4 c =
    rw (c.in-send.is, ← c.if-has_keys-7.ensures, ← c.if-has_keys-8.ensures, ← c.if-has_keys-9.ensures, ← c.if-has_keys-10.ensures) refl

pub returns-in_default-5 : goal.returns-in_default-5
unfolding steps
returns-in_default-5 c =
    rw (c.in-send.is, ← c.if-has_keys-7.ensures, ← c.if-has_keys-8.ensures, ← c.if-has_keys-9.ensures, ← c.if-has_keys-10.ensures) refl
