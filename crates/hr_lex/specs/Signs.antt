-- Signs, by their bytes.
use Rattle.std.specs.Prelude.{ℕ, ◌==◌, ◌&&◌, Option, Some, None, if◌then◌else◌}
use Rattle.hr_lex.specs.declared.token.TokenKind.{TokenKind}
use Rattle.hr_lex.specs.declared.token.TokenKind.TheVariants as t

-- < > · ! = · < = · > =
abbrev pub long_sign : ℕ → ℕ → Option TokenKind
long_sign a b =
    if a == 60 && b == 62 then Some t.NotEqual
    else (if a == 33 && b == 61 then Some t.BangEqual
    else (if a == 60 && b == 61 then Some t.LessEqual
    else (if a == 62 && b == 61 then Some t.GreaterEqual
    else None)))

-- ( ) , . ; * + - = < >
abbrev pub short_sign : ℕ → Option TokenKind
short_sign b =
    if b == 40 then Some t.LeftParen
    else (if b == 41 then Some t.RightParen
    else (if b == 44 then Some t.Comma
    else (if b == 46 then Some t.Dot
    else (if b == 59 then Some t.Semicolon
    else (if b == 42 then Some t.Star
    else (if b == 43 then Some t.Plus
    else (if b == 45 then Some t.Minus
    else (if b == 61 then Some t.Equal
    else (if b == 60 then Some t.Less
    else (if b == 62 then Some t.Greater
    else None))))))))))
