-- The arguments of the program.
-- Assumes nothing.
use Rattle.std.specs.Prelude.{ℕ, Bool, true, false, cond, not, ◌&&◌, ◌||◌, List, [], ◌∷◌, ◌==◌, nat_eq, Some, None}
use Rattle.std.specs.Option.{is_some, is_none}
use lib.Pointwise.{pointwise}
use Rattle.words.specs.Text.{text}
use Rattle.serving.specs.declared.options.Awaited.{Awaited}
use Rattle.serving.specs.declared.options.View.{View}
use Rattle.serving.specs.declared.options.Options.{Options}

-- Nothing is asked for.
abbrev pub no_options : Options
no_options =
    record {
      bail = false;
      end = false;
      batch = false;
      read = false;
      words = false;
      plain = false;
      csv = false;
      help = false;
      version = false;
      wrong = false;
      name = None;
      awaits = Awaited.Nothing;
      load = None;
      view = View.Answers;
    }

-- Whether an argument is an option.
abbrev pub is : List ℕ → List ℕ → Bool
is argument option = pointwise nat_eq argument option

-- Whether an argument begins as an option does.
abbrev pub is_dashed : List ℕ → Bool
is_dashed [] = false
is_dashed (b ∷ l) = b == 45

-- The options that await no argument and are no view.
unfoldable pub is_flag : List ℕ → Bool
is_flag a =
    ((((((((is a (text "--bail") || is a (text "--end")) || is a (text "--batch")) || is a (text "--read")) || is a (text "--words"))
    || is a (text "--plain")) || is a (text "--csv")) || is a (text "--help")) || is a (text "-h")) || is a (text "--version")

-- "`--load FILE`", "`--items P`", "`--extract P`", "`--chart P`": what an option awaits behind it.
unfoldable pub awaited_by : List ℕ → Awaited
awaited_by a =
    cond (is a (text "--load")) Awaited.File
    (cond (is a (text "--items")) Awaited.Items
    (cond (is a (text "--extract")) Awaited.Extract
    (cond (is a (text "--chart")) Awaited.Chart Awaited.Nothing)))

-- Whether something is shown of a journal in place of answers.
abbrev pub is_view : View → Bool
is_view View.Answers = false
is_view v = true

-- "`--csv` for `report` and `--items`": whether it can be shown as lines of a table for spreadsheets.
abbrev pub takes_csv : View → Bool
takes_csv View.Answers = true
takes_csv (View.Items i) = true
takes_csv View.Audit = true
takes_csv v = false

-- What is asked for with a flag more.
unfoldable pub with_flag : Options → List ℕ → Options
with_flag o a =
    record o {
      bail = o.bail || is a (text "--bail");
      end = o.end || is a (text "--end");
      batch = o.batch || is a (text "--batch");
      read = o.read || is a (text "--read");
      words = o.words || is a (text "--words");
      plain = o.plain || is a (text "--plain");
      csv = o.csv || is a (text "--csv");
      help = (o.help || is a (text "--help")) || is a (text "-h");
      version = o.version || is a (text "--version");
    }

-- .. with a view more, of which there is only one.
abbrev pub with_view : Options → View → Options
with_view o v = record o { wrong = o.wrong || is_view o.view; awaits = Awaited.Nothing; view = v }

-- .. with the name of the file to be entered, the i-th argument; a second `--load` is wrong.
abbrev pub with_file : Options → ℕ → Options
with_file o i = record o { wrong = o.wrong || is_some o.load; awaits = Awaited.Nothing; load = Some i }

-- .. with an argument that is no option, the i-th: "any other argument that begins with `-`, or more than one journal, prints the usage".
unfoldable pub with_name : Options → ℕ → List ℕ → Options
with_name o i a = cond (is_dashed a || is_some o.name) (record o { wrong = true }) (record o { name = Some i })

-- .. with one argument more, the i-th, that no option awaits.
abbrev pub awaiting_or : Options → Awaited → Options → Options
awaiting_or named Awaited.Nothing o = named
awaiting_or named w o = record o { awaits = w }

unfoldable pub with_option : Options → ℕ → List ℕ → Options
with_option o i a =
    cond (is_flag a) (with_flag o a)
    (cond (is a (text "--audit")) (with_view o View.Audit) (awaiting_or (with_name o i a) (awaited_by a) o))

-- .. with the one that the option before it awaits.
abbrev pub awaited_as : Options → ℕ → Awaited → Options
awaited_as o i Awaited.Nothing = o
awaited_as o i Awaited.File = with_file o i
awaited_as o i Awaited.Items = with_view o (View.Items i)
awaited_as o i Awaited.Extract = with_view o (View.Extract i)
awaited_as o i Awaited.Chart = with_view o (View.Chart i)

abbrev pub with_awaited : Options → ℕ → Options
with_awaited o i = awaited_as o i o.awaits

-- Whether nothing is awaited.
abbrev pub is_free : Awaited → Bool
is_free Awaited.Nothing = true
is_free w = false

-- What is asked for with one argument more, the i-th. One that is awaited may not begin as an option does.
unfoldable pub with_argument : Options → ℕ → List ℕ → Options
with_argument o i a =
    cond (is_free o.awaits) (with_option o i a) (record (with_awaited o i) { wrong = (with_awaited o i).wrong || is_dashed a })

-- "With `--words`, and by default when standard output is a terminal": what is asked for where it is one or not. `--plain` asks for the numbers alone.
abbrev pub shown_on : Options → (terminal : Bool) → Options
shown_on o terminal = record o { words = o.words || (terminal && not o.plain) }

-- Whether a journal is kept, and not only read.
abbrev pub keeps : Options → Bool
keeps o = not o.read && not (is_view o.view)

-- Whether a view is asked for that doesn't go with the rest: it needs a journal, which is read and answers nothing; an extract and a picture are no
-- tables.
unfoldable pub is_view_wrong : Options → Bool
is_view_wrong o =
    (is_view o.view && ((is_none o.name || is_some o.load) || (((o.bail || o.end) || o.batch) || o.read)))
    || (o.csv && not (takes_csv o.view))

-- Whether the arguments are none that the program takes: one of them is wrong, an option has nothing behind it that it awaits, `--read` has no journal or
-- stands beside `--load`, or the view doesn't go with the rest.
unfoldable pub is_wrong : Options → Bool
is_wrong o =
    ((o.wrong || not (is_free o.awaits)) || (o.read && (is_none o.name || is_some o.load))) || is_view_wrong o
