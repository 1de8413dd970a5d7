-- Each replica is at a prefix of the log.
use Rattle.std.proofs.Common.{◌≡◌, ◌⊎◌, inl, inr, ℕ, zero, suc, ◌+◌, Option, Some, None, Contains, option_to_list, option_map, length-append, List, [], ◌∷◌, ◌++◌, take, refl, ap, sym, ◌∙◌, arith}
use Rattle.std.proofs.lemmas.List.{length-map}
use Rattle.hr_rel.specs.Database.{Database}
use Rattle.hr_meaning.specs.Serial.{play, database_after, database_at}
use Rattle.hr_engine.specs.Base.{settled, base}
use Rattle.hr_rel.specs.declared.stmt.Stmt.{Stmt}
use Rattle.hr_engine.proofs.SerialLaws.{database_after-append}
use Rattle.hr_history.specs.History.{History}
use Rattle.hr_history.specs.Transactions.{log, submits}
use Rattle.hr_history.specs.Replicas.{journal_of, position_of}
use Rattle.hr_records.specs.AtReplica.{Begins}
use Rattle.hr_records.proofs.Options.{some_none, same_some}
use Rattle.hr_records.specs.Kept.{Kept}
use Rattle.hr_records.proofs.Beginnings.{begins_length, begins_take, begins_get}
use Rattle.hr_serial.specs.Prefix.{log_statements, IsAtPrefix}

-- the one, or the other where it is there
one_of : {X : Type 0} (x : X) (o : Option X) (d : X) → Contains (x ∷ option_to_list o) d → (x ≡ d) ⊎ (o ≡ Some d)
one_of x None d (zero, lt, e) = inl e
one_of x None d (suc n, lt, e) = absurd (omega (arith, lt))
one_of x (Some y) d (zero, lt, e) = inl e
one_of x (Some y) d (suc zero, lt, e) = inr (ap Some e)
one_of x (Some y) d (suc (suc n), lt, e) = absurd (omega (arith, lt))

pub at_prefix : (h : History) → Kept h → (r : ℕ) → IsAtPrefix h r
at_prefix h k r =
    let part = k.replicas r in
    let commits = (settled (journal_of r h)).commits in
    let first = begins_take commits (log_statements h) part.base in
    record {
      within = omega (arith, begins_length commits (log_statements h) part.base, length-map (log h) (λ t. submits t h));
      commits = first;
      doubt = λ stmts e. begins_get commits (log_statements h) stmts (part.doubt stmts e);
      base = λ db. ap (database_after db) first;
      bases = λ db d among. of_bases db d (one_of (base db (journal_of r h)) (option_map (λ stmts. (play (base db (journal_of r h)) stmts).after) (settled (journal_of r h)).doubt) d among) first;
    }
  where
    one_more : (db : Database) (stmts : List Stmt) → Begins ((settled (journal_of r h)).commits ++ stmts ∷ []) (log_statements h) → (play (base db (journal_of r h)) stmts).after ≡ database_at db (log_statements h) (position_of r h + 1)
    one_more db stmts b =
        let commits = (settled (journal_of r h)).commits in
        sym (database_after-append db commits (stmts ∷ []))
        ∙ ap (database_after db) (begins_take (commits ++ stmts ∷ []) (log_statements h) b)
        ∙ ap (database_at db (log_statements h)) (length-append commits (stmts ∷ []))

    of_doubt : (db d : Database) (o : Option (List Stmt)) → (settled (journal_of r h)).doubt ≡ o → option_map (λ stmts. (play (base db (journal_of r h)) stmts).after) o ≡ Some d → d ≡ database_at db (log_statements h) (position_of r h + 1)
    of_doubt db d None doubt e = absurd (some_none d (sym e))
    of_doubt db d (Some stmts) doubt e = sym (same_some _ d e) ∙ one_more db stmts ((k.replicas r).doubt stmts doubt)

    of_bases : (db d : Database) → (base db (journal_of r h) ≡ d) ⊎ (option_map (λ stmts. (play (base db (journal_of r h)) stmts).after) (settled (journal_of r h)).doubt ≡ Some d)
        → (settled (journal_of r h)).commits ≡ take (position_of r h) (log_statements h)
        → (d ≡ database_at db (log_statements h) (position_of r h)) ⊎ (d ≡ database_at db (log_statements h) (position_of r h + 1))
    of_bases db d (inl is) first = inl (sym is ∙ ap (database_after db) first)
    of_bases db d (inr next) first = inr (of_doubt db d (settled (journal_of r h)).doubt refl next)
