-- What is told of a text is what the grammar says of its words and of its tokens' error.
use Rattle.std.proofs.Common.{◌≡◌, ◌≤◌, ◌⊎◌, inl, inr, ℕ, ◌+◌, nat_lt, Bool, true, false, List, [], ◌∷◌, length, map, Option, Some, None, Result, Ok, Err, IfOk, IfErr, refl, sym, ◌∙◌, ap, subst, arith}
use Rattle.std.proofs.lemmas.Bool.Decides.{nat_tests}
use Rattle.hr_lex.specs.declared.token.LexError.{LexError}
use Rattle.hr_lex.specs.Tokens.{read_of}
use Rattle.hr_parse.specs.declared.parser.Stop.{Stop}
use Rattle.hr_parse.specs.declared.parser.Stop.TheVariants as stop
use Rattle.hr_parse.specs.declared.parsing.ParseError.{ParseError}
use Rattle.hr_parse.specs.declared.parsing.ParseError.TheVariants as e
use Rattle.hr_parse.specs.declared.word.Lexeme.{Lexeme}
use Rattle.hr_parse.specs.Readers.{Outcome, Reader, Reads, alone}
use Rattle.hr_parse.specs.Parse.{Refused, error, depth_for, moved, told, settled}
use Rattle.hr_parse.proofs.Shapes.{Shape}
use Rattle.hr_parse.proofs.Rules.{Rule}
use Rattle.hr_parse.proofs.Operands.{Fits}
use Rattle.hr_parse.proofs.Whole.{Cause, begins_all, read_is, is_read, refused}

-- ---- what the parser's functions ensure, as what is told

settled_end : {A : Type 0} (o : Outcome A) (first : Option LexError) (end last : ℕ) → (first ≡ None → end ≡ last) → settled o first end ≡ settled o first last
settled_end (Ok p) None end last h = refl
settled_end (Ok p) (Some f) end last h = refl
settled_end (Err (x ∷ r)) first end last h = refl
settled_end (Err []) None end last h = ap (λ z. Err (e.Unexpected z)) (h refl)
settled_end (Err []) (Some f) end last h = refl

settled_reads : {A : Type 0} (o : Outcome A) (r : Result A Stop) (rest : List Lexeme) (first : Option LexError) (end : ℕ) → Reads o r rest
    → (told r rest first end ≡ settled o first end) ⊎ (told r rest first end ≡ Err e.Memory)
settled_reads o (Ok a) rest first end h = inl (sym (ap (λ z. settled z first end) h))
settled_reads o (Err stop.Unexpected) rest first end h = inl (sym (ap (λ z. settled z first end) h))
settled_reads o (Err stop.Memory) rest first end h = inr refl

-- what is told where a reader has read words that are those of the text
pub exactly : {A : Type 0} (f : ℕ → Reader A) (given s : List Lexeme) (r : Result A Stop) (rest : List Lexeme) (found first : Option LexError) (end last : ℕ)
    → given ≡ s → found ≡ first → (first ≡ None → end ≡ last) → Reads (f (depth_for given) given) r rest
    → (told r rest found end ≡ settled (f (depth_for s) s) first last) ⊎ (told r rest found end ≡ Err e.Memory)
exactly f given s r rest found first end last same alike ends h = elim (settled_reads (f (depth_for given) given) r rest found end h) [
  | inl k ↦ inl (k ∙ (ap (λ z. settled (f (depth_for z) z) found end) same ∙ (ap (λ z. settled (f (depth_for s) s) z end) alike ∙ settled_end (f (depth_for s) s) first end last ends)))
  | inr k ↦ inr k
]

-- what an answer says that is this result, or want of memory
pub exact_ok : {A : Type 0} (Q : A → Type 0) (r q : Result A ParseError) → (r ≡ q) ⊎ (r ≡ Err e.Memory) → ((a : A) → q ≡ Ok a → Q a) → IfOk r Q
exact_ok Q (Ok a) q (inl k) h = h a (sym k)
exact_ok Q (Ok a) q (inr k) h = absurd (cc)
exact_ok Q (Err x) q k h = tt

pub exact_only : {A : Type 0} (r q : Result A ParseError) (a : A) → (r ≡ q) ⊎ (r ≡ Err e.Memory) → q ≡ Ok a → (r ≡ Ok a) ⊎ (r ≡ Err e.Memory)
exact_only r q a (inl k) h = inl (k ∙ h)
exact_only r q a (inr k) h = inr k

pub exact_err : {A : Type 0} (Q : ParseError → Type 0) (r q : Result A ParseError) → (r ≡ q) ⊎ (r ≡ Err e.Memory) → Q e.Memory → ((x : ParseError) → q ≡ Err x → Q x) → IfErr r Q
exact_err Q (Ok a) q k memory h = tt
exact_err Q (Err x) q (inl k) memory h = h x (sym k)
exact_err Q (Err x) q (inr k) memory h = let same : e.Memory ≡ x = cc in subst Q same memory

-- ---- what is settled is what the grammar says

module _ {A : Type 0} (f : ℕ → Reader A) (L : List Lexeme → A → Type 0) (c : Shape) (rule : (n : ℕ) → Rule (f n) L c (Fits 6 n)) (s : List Lexeme) (first : Option LexError) (end : ℕ) where
  abbrev read : Outcome A
  read = alone (f (depth_for s)) s

  in_it : (p : A × List Lexeme) → read ≡ Ok p → L s p.0
  in_it p q = read_is 6 (depth_for s) (f (depth_for s)) L c (rule (depth_for s)) s p.1 p.0 q

  why : (t : List Lexeme) → read ≡ Err t → Cause L s t
  why t q = refused 6 (depth_for s) (f (depth_for s)) L c (rule (depth_for s)) s t (omega arith) q

  -- what is told rightly with this error behind the words
  abbrev Right : Option LexError → Result A ParseError → Type 0
  Right last (Ok a) = (last ≡ None) × L s a
  Right last (Err x) = Refused L s last end x × (x ≡ e.Memory → ⊥)

  told_rightly : (o : Outcome A) (last : Option LexError) → read ≡ o → Right last (settled o last end)
  told_rightly (Ok p) None q = (refl, in_it p q)
  told_rightly (Ok p) (Some g) q = ((refl, begins_all L s p.0 (in_it p q)), λ h. absurd (cc))
  told_rightly (Err (y ∷ r)) last q = (inl (why (y ∷ r) q), λ h. absurd (cc))
  told_rightly (Err []) None q = (inr (refl, refl, why [] q), λ h. absurd (cc))
  told_rightly (Err []) (Some g) q = ((refl, (why [] q).0), λ h. absurd (cc))

  pub settled_tree : (a : A) → settled read first end ≡ Ok a → (first ≡ None) × L s a
  settled_tree a h = subst (Right first) h (told_rightly read first refl)

  pub tree_settled : (a : A) → (first ≡ None) × L s a → settled read first end ≡ Ok a
  tree_settled a h =
      ap (λ z. settled z first end) (is_read 6 (depth_for s) (f (depth_for s)) L c (rule (depth_for s)) s a h.1 (omega arith)) ∙ ap (λ z. settled (let o : Outcome A = Ok (a, []) in o) z end) h.0

  pub settled_refused : (x : ParseError) → settled read first end ≡ Err x → Refused L s first end x
  settled_refused x h = (subst (Right first) h (told_rightly read first refl)).0

  pub settled_memory : settled read first end ≡ Err e.Memory → ⊥
  settled_memory h = (subst (Right first) h (told_rightly read first refl)).1 refl

-- ---- the length of a text, and words that stand where they were

short_by : (text : List ℕ) (b : Bool) → nat_lt 1024 (length text) ≡ b → error text ≡ None → length text ≤ 1024
short_by text true h q = let z = rw (h, error, read_of) at q in absurd (cc)
short_by text false h q = grind (arith, nat_tests, h)

-- a text without an error is short enough to be read
pub short : (text : List ℕ) → error text ≡ None → length text ≤ 1024
short text q = short_by text (nat_lt 1024 (length text)) refl q

pub unmoved : (s : List Lexeme) → map (moved 0) s ≡ s
unmoved [] = refl
unmoved (x ∷ s) =
    let at : 0 + x.at ≡ x.at = omega arith in
    let f : ℕ → Lexeme = λ p. record { word = x.word; at = p } in
    rw (unmoved s) (ap (λ z. f z ∷ s) at)
