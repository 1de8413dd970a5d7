-- The words that are never names.
use Rattle.std.specs.Prelude.{ℕ, List, [], ◌∷◌, Option, Some, None, if◌then◌else◌, codes}
use Rattle.std.specs.Str.{str_eq_ignore_ascii_case}
use Rattle.hr_lex.specs.declared.token.Keyword.{Keyword}
use Rattle.hr_lex.specs.declared.token.Keyword.TheVariants as k

abbrev pub lookup : List (List ℕ × Keyword) → List ℕ → Option Keyword
lookup [] word = None
lookup (entry ∷ table) word = if str_eq_ignore_ascii_case entry.0 word then Some entry.1 else lookup table word

abbrev pub keywords : List (List ℕ × Keyword)
keywords =
    (codes "SELECT", k.Select) ∷ (codes "FROM", k.From) ∷ (codes "INNER", k.Inner) ∷ (codes "JOIN", k.Join)
    ∷ (codes "ON", k.On) ∷ (codes "WHERE", k.Where) ∷ (codes "GROUP", k.Group) ∷ (codes "BY", k.By)
    ∷ (codes "INSERT", k.Insert) ∷ (codes "INTO", k.Into) ∷ (codes "VALUES", k.Values) ∷ (codes "UPDATE", k.Update)
    ∷ (codes "SET", k.Set) ∷ (codes "DELETE", k.Delete) ∷ (codes "AND", k.And) ∷ (codes "OR", k.Or)
    ∷ (codes "NOT", k.Not) ∷ (codes "IS", k.Is) ∷ (codes "NULL", k.Null) ∷ (codes "BETWEEN", k.Between)
    ∷ (codes "IN", k.In) ∷ (codes "AS", k.As) ∷ (codes "COUNT", k.Count) ∷ (codes "SUM", k.Sum)
    ∷ (codes "MIN", k.Min) ∷ (codes "MAX", k.Max) ∷ (codes "BEGIN", k.Begin) ∷ (codes "COMMIT", k.Commit)
    ∷ (codes "ROLLBACK", k.Rollback) ∷ (codes "ORDER", k.Order) ∷ (codes "LIMIT", k.Limit) ∷ (codes "ASC", k.Asc)
    ∷ (codes "DESC", k.Desc) ∷ []

-- the keyword that a word is, in either case
unfoldable pub keyword : List ℕ → Option Keyword
keyword = lookup keywords
