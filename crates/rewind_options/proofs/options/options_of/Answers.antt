use Rattle.std.proofs.Common.{◌≡◌, ◌∙◌, true, false, List, map, codes, inl, inr, ap, ap₂, refl, sym, subst, arith}
use Rattle.std.specs.Str.{bytes_eq}
use Rattle.std.specs.Str.Parse.{ParsesUnsigned, ExplainsUnsignedError, HasUnsignedDigitsIfOk}
use Rattle.clap.specs.Words.{App, Text, app_of, found_of, is_simple, matches_of, one_of, one_text, rows_of, with_rule}
use Rattle.clap.specs.Faults.{fault_of, is_simple_and_free}
use Rattle.clap.specs.Kinds.{HasKind, IsAmong, Kinds}
use Rattle.clap.specs.Values.{kind_of}
use Rattle.clap.specs.declared.error.Error.{Error}
use Rattle.clap.specs.declared.error.kind.ErrorKind.TheVariants as kind
use Rattle.clap.specs.declared.error.kind.ErrorKind.{ErrorKind}
use Rattle.clap.proofs.OnLiterals.{clap_on_literals}
use Rattle.clap.proofs.WalkLemmas.{one_text-rows}
use Rattle.rewind_options.specs.Options.{command_line, number_or_one, AreRefused}
use Rattle.rewind_options.proofs.OptionReads.{two_options}
use Rattle.rewind_options.proofs.options.options_of.Goals as goal

line_is_simple : is_simple command_line ≡ true
unfolding clap_on_literals
line_is_simple = refl

line_is_free : is_simple_and_free command_line ≡ true
unfolding clap_on_literals
line_is_free = refl

pub returns-in-Ok-try_get_matches_from : goal.returns-in-Ok-try_get_matches_from
returns-in-Ok-try_get_matches_from g c =
    let words : List Text = map g.S.AsStr.text c.args.words.now in
    let a = c.processors_argument-processors in
    let b = c.clients_argument-clients in
    let m = c.in-Ok-try_get_matches_from.matches in
    let cmd = c.in-Ok-arg.command in
    let parse = c.in-Ok-try_get_matches_from.ensures in
    let id_a : a.result.id.now ≡ codes "processors" = ap (λ r. r.id) a.ensures.rule in
    let id_b : b.result.id.now ≡ codes "clients" = ap (λ r. r.id) b.ensures.rule in
    let is : app_of cmd ≡ command_line = c.in-Ok-arg.ensures.shape b.ensures.plain.1
    ∙ ap₂ with_rule (c.in-Ok.ensures.shape a.ensures.plain.1 ∙ ap₂ with_rule c.empty_command.ensures.app a.ensures.rule) b.ensures.rule in
    let rows : rows_of (found_of m) ≡ matches_of command_line words = (parse.matches (ap is_simple is ∙ line_is_simple)).0 ∙ ap (λ (x : App). matches_of x words) is in
    let text = λ (id : Text). one_text-rows (found_of m) id ∙ ap (one_of id) rows in
    let ab : bytes_eq a.result.id.now b.result.id.now ≡ false = ap₂ bytes_eq id_a id_b in
    let ba : bytes_eq b.result.id.now a.result.id.now ≡ false = ap₂ bytes_eq id_b id_a in
    let both = two_options c.empty_command.result c.in-Ok.command cmd a.result b.result m c.in-Ok.ensures c.in-Ok-arg.ensures c.empty_command.ensures.args c.empty_command.ensures.groups c.empty_command.ensures.local
    a.ensures.plain b.ensures.plain ab ba parse.parsed 64 64 (omega arith) (omega arith) (omega arith) (omega arith) a.ensures.parser b.ensures.parser
    _ (λ bs r. ParsesUnsigned 8 10 bs r × ExplainsUnsignedError 10 bs r × HasUnsignedDigitsIfOk bs r) (λ u x h. h.0)
    c.get_one.result c.get_one-in-Ok-try_get_matches_from.result
    (rw id_a c.get_one.ensures.none) (rw id_a c.get_one.ensures.value)
    (rw id_b c.get_one-in-Ok-try_get_matches_from.ensures.none) (rw id_b c.get_one-in-Ok-try_get_matches_from.ensures.value) in
    record {
      processors = c.unwrap_or.ensures ∙ (both.0.0 ∙ ap number_or_one (ap (one_text (found_of m)) id_a ∙ text (codes "processors")));
      clients = c.unwrap_or-in-Ok-try_get_matches_from.ensures ∙ (both.1.0 ∙ ap number_or_one (ap (one_text (found_of m)) id_b ∙ text (codes "clients")));
      range = rw (c.unwrap_or.ensures, c.unwrap_or-in-Ok-try_get_matches_from.ensures) (both.0.1, both.0.2, both.1.1, both.1.2);
      taken = ap (λ (x : App). fault_of x words) (sym is) ∙ parse.kinds (ap is_simple_and_free is ∙ line_is_free);
      help = tt;
      refused = tt;
    }

asked : (k : ErrorKind) (ks : Kinds) (e : Error) → HasKind ks e → kind_of e ≡ kind.DisplayHelp → IsAmong kind.DisplayHelp ks
asked k ks e (inl oom) is = cc
asked k ks e (inr among) is = subst (λ (x : ErrorKind). IsAmong x ks) is among

some_kind : (ks : Kinds) (e : Error) → HasKind ks e → (kind_of e ≡ kind.DisplayHelp → ⊥) → (kind_of e ≡ kind.OutOfMemory → ⊥) → AreRefused ks
some_kind ks e (inl oom) help other = absurd (other oom)
some_kind ks e (inr among) help other = (kind_of e, among, help)

pub returns-in-Err-try_get_matches_from-clause-help : goal.returns-in-Err-try_get_matches_from-clause-help
returns-in-Err-try_get_matches_from-clause-help g c =
    let words : List Text = map g.S.AsStr.text c.args.words.now in
    let a = c.processors_argument-processors in
    let b = c.clients_argument-clients in
    let e = c.in-Err-try_get_matches_from.error in
    let is : app_of c.in-Ok-arg.command ≡ command_line = c.in-Ok-arg.ensures.shape b.ensures.plain.1
    ∙ ap₂ with_rule (c.in-Ok.ensures.shape a.ensures.plain.1 ∙ ap₂ with_rule c.empty_command.ensures.app a.ensures.rule) b.ensures.rule in
    let kinds : HasKind (fault_of command_line words) e =
    subst (λ (x : App). HasKind (fault_of x words) e) is (c.in-Err-try_get_matches_from.ensures.kinds (ap is_simple_and_free is ∙ line_is_free)) in
    λ h. asked (kind_of e) (fault_of command_line words) e kinds (c.fault_of.ensures.help h)

pub returns-in-Err-try_get_matches_from-clause-refused : goal.returns-in-Err-try_get_matches_from-clause-refused
returns-in-Err-try_get_matches_from-clause-refused g c =
    let words : List Text = map g.S.AsStr.text c.args.words.now in
    let a = c.processors_argument-processors in
    let b = c.clients_argument-clients in
    let e = c.in-Err-try_get_matches_from.error in
    let is : app_of c.in-Ok-arg.command ≡ command_line = c.in-Ok-arg.ensures.shape b.ensures.plain.1
    ∙ ap₂ with_rule (c.in-Ok.ensures.shape a.ensures.plain.1 ∙ ap₂ with_rule c.empty_command.ensures.app a.ensures.rule) b.ensures.rule in
    let kinds : HasKind (fault_of command_line words) e =
    subst (λ (x : App). HasKind (fault_of x words) e) is (c.in-Err-try_get_matches_from.ensures.kinds (ap is_simple_and_free is ∙ line_is_free)) in
    λ h. some_kind (fault_of command_line words) e kinds (c.fault_of.ensures.refused h).0 (c.fault_of.ensures.refused h).1
