-- The command line `rewind [--processors N] [--clients C]`, and what clap reads from the words.
use Rattle.std.specs.Prelude.{◌≢◌, ℕ, List, Option, Some, None, codes, pos, ⊤}
use Rattle.std.specs.Str.Parse.{digits_value, without_leading_plus}
use Rattle.clap.specs.Words.{App, Rule, Text, matches_of, new_app, new_rule, one_of, with_rule}
use Rattle.clap.specs.Kinds.{IsAmong, Kinds}
use Rattle.clap.specs.Faults.{fault_of}
use Rattle.clap.specs.declared.builder.action.ArgAction.TheVariants.{Set}
use Rattle.clap.specs.declared.builder.value_parser.ValueParser.TheVariants as vp
use Rattle.nd_time.specs.Limits.{max_clients, max_processors}
use Rattle.rewind_options.specs.declared.options.WordsFault.{WordsFault}
use Rattle.rewind_options.specs.declared.options.WordsFault.TheVariants.{Help, Refused, Memory}
use Rattle.clap.specs.declared.error.kind.ErrorKind.{ErrorKind}
use Rattle.clap.specs.declared.error.kind.ErrorKind.TheVariants as kind

-- `--NAME NUMBER`, a number from 1 to most
abbrev pub number_rule : Text → ℕ → Rule
number_rule name most = record (new_rule name) {
  long = Some name;
  action = Some Set;
  parser = Some (vp.Signed (pos 1) (pos most));
}

-- the command, and its two options
abbrev pub command_line : App
command_line = with_rule (with_rule (new_app (codes "rewind")) (number_rule (codes "processors") max_processors)) (number_rule (codes "clients") max_clients)

-- the text that the words give for an option, if they do
abbrev pub given : Text → List Text → Option Text
given name words = one_of name (matches_of command_line words)

-- the number of that text, 1 if the option is absent
abbrev pub number_or_one : Option Text → ℕ
number_or_one None = 1
number_or_one (Some text) = digits_value 10 (without_leading_plus text)

-- the errors with which clap refuses the words; none if it accepts them
abbrev pub refusals : List Text → Kinds
refusals words = fault_of command_line words

-- help is asked for
abbrev pub AskHelp : Kinds → Type 0
AskHelp kinds = IsAmong kind.DisplayHelp kinds

-- one of these errors is not that help is asked for
abbrev pub AreRefused : Kinds → Type 0
AreRefused kinds = (k : ErrorKind) × IsAmong k kinds × (k ≢ kind.DisplayHelp)

-- help was asked for, and this is it
abbrev pub IsHelp : WordsFault → Type 0
IsHelp (Help text) = ⊤
IsHelp _ = ⊥

-- the words were refused
abbrev pub IsRefused : WordsFault → Type 0
IsRefused (Refused text) = ⊤
IsRefused _ = ⊥
