-- INSERT.
use Rattle.std.specs.Prelude.{pos, negsuc, List, [], ◌∷◌, codes}
use Rattle.hr_rel.specs.declared.value.Value.TheVariants.{Null}
use Rattle.hr_rel.specs.declared.answer.Answer.TheVariants.{Count, Failed}
use Rattle.hr_rel.specs.declared.answer.RunError.TheVariants.{DuplicateKey, NullRefused}
use Rattle.hr_worked_statements.specs.Trees.{Insert}
use Rattle.hr_worked_statements.specs.Words.{Worked, asked, changed, t, u, p, int, minus, text}
use Rattle.hr_worked_statements.specs.Databases.{main, empty, below}

abbrev pub inserts : List Worked
inserts =
    -- INSERT INTO t VALUES (5, 1, 'c')
    changed main (Insert t ((int 5 ∷ int 1 ∷ text (codes "c") ∷ []) ∷ [])) (Count 1) t ((int 1 ∷ int 10 ∷ text (codes "a") ∷ []) ∷ (int 2 ∷ Null ∷ text (codes "b") ∷ []) ∷ (int 3 ∷ int 10 ∷ Null ∷ []) ∷ (int 4 ∷ minus 5 ∷ text (codes "B") ∷ []) ∷ (int 5 ∷ int 1 ∷ text (codes "c") ∷ []) ∷ [])
    -- INSERT INTO t VALUES (0, NULL, NULL)
    ∷ changed main (Insert t ((int 0 ∷ Null ∷ Null ∷ []) ∷ [])) (Count 1) t ((int 0 ∷ Null ∷ Null ∷ []) ∷ (int 1 ∷ int 10 ∷ text (codes "a") ∷ []) ∷ (int 2 ∷ Null ∷ text (codes "b") ∷ []) ∷ (int 3 ∷ int 10 ∷ Null ∷ []) ∷ (int 4 ∷ minus 5 ∷ text (codes "B") ∷ []) ∷ [])
    -- INSERT INTO u VALUES (9, 1), (2, 0), (4, 4)
    ∷ changed main (Insert u ((int 9 ∷ int 1 ∷ []) ∷ (int 2 ∷ int 0 ∷ []) ∷ (int 4 ∷ int 4 ∷ []) ∷ [])) (Count 3) u ((int 1 ∷ int 7 ∷ []) ∷ (int 2 ∷ int 0 ∷ []) ∷ (int 3 ∷ int 10 ∷ []) ∷ (int 4 ∷ int 4 ∷ []) ∷ (int 5 ∷ int 10 ∷ []) ∷ (int 9 ∷ int 1 ∷ []) ∷ [])
    -- INSERT INTO t VALUES (1, NULL, '')
    ∷ changed empty (Insert t ((int 1 ∷ Null ∷ text [] ∷ []) ∷ [])) (Count 1) t ((int 1 ∷ Null ∷ text [] ∷ []) ∷ [])
    -- INSERT INTO u VALUES (9223372036854775807, 0), (-9223372036854775808, 0)
    ∷ changed main (Insert u ((int 9223372036854775807 ∷ int 0 ∷ []) ∷ (minus 9223372036854775808 ∷ int 0 ∷ []) ∷ [])) (Count 2) u ((minus 9223372036854775808 ∷ int 0 ∷ []) ∷ (int 1 ∷ int 7 ∷ []) ∷ (int 3 ∷ int 10 ∷ []) ∷ (int 5 ∷ int 10 ∷ []) ∷ (int 9223372036854775807 ∷ int 0 ∷ []) ∷ [])
    -- INSERT INTO t VALUES (3, 0, NULL)
    ∷ asked main (Insert t ((int 3 ∷ int 0 ∷ Null ∷ []) ∷ [])) (Failed (DuplicateKey (pos 3)))
    -- INSERT INTO u VALUES (6, 0), (6, 1)
    ∷ asked main (Insert u ((int 6 ∷ int 0 ∷ []) ∷ (int 6 ∷ int 1 ∷ []) ∷ [])) (Failed (DuplicateKey (pos 6)))
    -- INSERT INTO u VALUES (7, 0), (3, 0)
    ∷ asked main (Insert u ((int 7 ∷ int 0 ∷ []) ∷ (int 3 ∷ int 0 ∷ []) ∷ [])) (Failed (DuplicateKey (pos 3)))
    -- INSERT INTO u VALUES (NULL, 1)
    ∷ asked main (Insert u ((Null ∷ int 1 ∷ []) ∷ [])) (Failed (NullRefused 1))
    -- INSERT INTO u VALUES (9, NULL)
    ∷ asked main (Insert u ((int 9 ∷ Null ∷ []) ∷ [])) (Failed (NullRefused 2))
    -- INSERT INTO u VALUES (NULL, NULL)
    ∷ asked main (Insert u ((Null ∷ Null ∷ []) ∷ [])) (Failed (NullRefused 1))
    -- INSERT INTO p VALUES (9, NULL, NULL)
    ∷ asked main (Insert p ((int 9 ∷ Null ∷ Null ∷ []) ∷ [])) (Failed (NullRefused 3))
    -- INSERT INTO p VALUES (9, NULL, 0)
    ∷ changed main (Insert p ((int 9 ∷ Null ∷ int 0 ∷ []) ∷ [])) (Count 1) p ((int 1 ∷ int 5 ∷ int 6 ∷ []) ∷ (int 2 ∷ Null ∷ int 8 ∷ []) ∷ (int 9 ∷ Null ∷ int 0 ∷ []) ∷ [])
    -- INSERT INTO u VALUES (1, NULL)
    ∷ asked main (Insert u ((int 1 ∷ Null ∷ []) ∷ [])) (Failed (NullRefused 2))
    -- INSERT INTO u VALUES (1, 0), (9, NULL)
    ∷ asked main (Insert u ((int 1 ∷ int 0 ∷ []) ∷ (int 9 ∷ Null ∷ []) ∷ [])) (Failed (DuplicateKey (pos 1)))
    -- INSERT INTO u VALUES (9, NULL), (1, 0)
    ∷ asked main (Insert u ((int 9 ∷ Null ∷ []) ∷ (int 1 ∷ int 0 ∷ []) ∷ [])) (Failed (NullRefused 2))
    -- INSERT INTO u VALUES (9, 0), (9, NULL)
    ∷ asked main (Insert u ((int 9 ∷ int 0 ∷ []) ∷ (int 9 ∷ Null ∷ []) ∷ [])) (Failed (NullRefused 2))
    -- INSERT INTO u VALUES (-9223372036854775808, 5)
    ∷ asked below (Insert u ((minus 9223372036854775808 ∷ int 5 ∷ []) ∷ [])) (Failed (DuplicateKey (negsuc 9223372036854775807)))
    ∷ []
