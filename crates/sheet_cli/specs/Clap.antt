-- The command that clap is given to read the words behind a command's name by.
use Rattle.std.specs.Prelude.{ℕ, List, codes, true}
use Rattle.clap.specs.Words.{App, Rule, new_app, new_rule, with_rule}
use Rattle.clap.specs.Simple.{on_top}

-- a position that has to be given
abbrev pub position : List ℕ → Rule
position id = record (new_rule id) { required = true }

-- a command without a program's name before its words, and without an option for help
abbrev pub words_alone : App
words_alone = on_top (λ s. record s { no_binary_name = true; disable_help_flag = true }) (new_app (codes "command"))

-- one position, which has to be given
abbrev pub one_position : App
one_position = with_rule words_alone (position (codes "first"))

-- two positions, which have to be given
abbrev pub two_positions : App
two_positions = with_rule one_position (position (codes "second"))
