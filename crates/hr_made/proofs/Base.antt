-- What is said before the sessions.
use Rattle.std.proofs.Common.{◌≡◌, ℕ, List, [], ◌∷◌, ◌++◌, Result, Ok, Err, length, codes, map, refl}
use Rattle.std.specs.Fmt.{decimal, digits}
use Rattle.hr_base.specs.Texts.{Text}
use Rattle.hr_base.specs.Lists.{one_to}
use Rattle.hr_lex.specs.Keywords.{keyword}
use Rattle.hr_parse.specs.Words.{same_mark}
use Rattle.hr_parse.specs.Readers.{constant, listed_behind}
use Rattle.hr_parse.specs.Grammar.{literal, tuple}
use Rattle.hr_parse.specs.Parse.{parsed_tuple}
use Rattle.hr_check.specs.Told.{problem_of}
use Rattle.hr_bind.specs.Bind.{bound_of, bind_of}
use Rattle.hr_reader.specs.Rows.{bound_row}
use Rattle.hr_line.specs.Words.{only}
use Rattle.hr_line.specs.Numbers.{number_of}
use Rattle.hr_line.specs.Names.{name_of}
use Rattle.hr_forms.specs.Headings.{heading_of}
use Rattle.hr_forms.specs.Words.{number_in, named}
use Rattle.hr_forms.specs.Columns.{columns_of}
use Rattle.hr_lex.specs.Tokens.{token_at}
use Rattle.hr_said.specs.declared.said.Said.{Said}
use Rattle.hr_said.specs.declared.error.InputKind.{InputKind}
use Rattle.hr_said.specs.declared.said.Inside.TheVariants as inside
use Rattle.hr_said.specs.Said.{nothing, no_blocks}
use Rattle.hr_said.specs.Outcomes.{goes_on}
use Rattle.hr_reader.specs.Reading.{line_says}
use Rattle.hr_made.proofs.Binding.{accounts}

-- what these lines have said, behind what was said before them
abbrev pub all_say : Said → List Text → Result Said InputKind
all_say said [] = Ok said
all_say said (t ∷ ts) = goes_on (line_says said t) (λ next. all_say next ts)

abbrev pub head_lines : List Text
head_lines = codes "hrdb 1" ∷ codes "f 1" ∷ codes "replicas range table range" ∷ codes "retries 3" ∷ codes "table acct (id int key, owner text, bal int)" ∷ []

abbrev pub row_line : ℕ → Text
row_line n = codes "row acct (" ++ decimal n ++ codes ", 'own" ++ decimal n ++ codes "', 1000)"

abbrev pub or_nothing : Result Said InputKind → Said
or_nothing (Ok said) = said
or_nothing (Err k) = nothing

abbrev pub base_lines : ℕ → List Text
base_lines n = head_lines ++ map row_line (one_to n)

pub base_said : all_say nothing (base_lines 100) ≡ Ok (or_nothing (all_say nothing (base_lines 100)))
unfolding line_says heading_of number_in only number_of named name_of keyword columns_of token_at digits parsed_tuple tuple same_mark listed_behind literal constant bound_row bind_of problem_of bound_of
base_said = refl

abbrev pub base : Said
base = or_nothing (all_say nothing (base_lines 100))

-- There are three replicas, four tries and the table of accounts, and neither sessions nor a schedule.
pub record Starts (said : Said) : Type 0 where
  pub catalog : said.catalog ≡ accounts
  pub retries : said.retries ≡ 3
  pub replicas : length said.faults ≡ 3
  pub choices : said.choice_count ≡ 0
  pub whole : said ≡ record said { part = 5; inside = inside.Outside; scripts = []; session = no_blocks; statements = 0 }

pub starts : Starts base
unfolding line_says heading_of number_in only number_of named name_of keyword columns_of token_at digits parsed_tuple tuple same_mark listed_behind literal constant bound_row bind_of problem_of bound_of
starts = record { catalog = refl; retries = refl; replicas = refl; choices = refl; whole = refl }
