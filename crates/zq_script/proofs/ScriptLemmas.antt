-- What lines say, one by one.
use Rattle.std.proofs.Common.{◌≡◌, refl, ap, sym, ◌∙◌, ◌+◌, ◌++◌, ◌<◌, ◌≤◌, List, [], ℕ, Bor, length, drop, get_or, subst, arith}
use Rattle.std.specs.Prelude.{Result, Ok, Err, Option, option_to_list, map}
use Rattle.std.proofs.lemmas.Grind.{common_steps}
use Rattle.std.proofs.lemmas.List.{append_assoc, append-nil, length-map}
use Rattle.zq_script.specs.declared.fault.ScriptFault.{ScriptFault}
use Rattle.zq_script.specs.declared.statement.Statement.{Statement}
use Rattle.zq_script.specs.Answer.{◌>>=◌, Reads}
use Rattle.zq_script.specs.Script.{line_statement, statements_from, actors_of, script_of}
use Rattle.zq_script.specs.Statement.{Learned, nothing_learned, learned_behind}
use Rattle.zq_script.specs.Words.{lines_of}
use Rattle.zq_script.specs.declared.fault.Cause.TheVariants.{TooLong}
use Rattle.zq_script.specs.declared.fault.ReadScript.{ReadScript}
use Rattle.zq_script.specs.declared.fault.ReadScript.TheVariants.{Fault, OutOfMemory}
use Rattle.zq_script.specs.Reader.{said_with}
use Rattle.zq_script.proofs.AnswerLemmas.{words-cons, words-end}

-- what was said before goes before what the first line says
said_with-more : (before : List Statement) (said : Option Statement) (r : Result (List Statement) ScriptFault)
    → said_with before (r >>= λ later. Ok (option_to_list said ++ later)) ≡ said_with (before ++ option_to_list said) r
unfolding said_with
said_with-more before said (Ok later) = ap Ok (sym (append_assoc before (option_to_list said) later))
said_with-more before said (Err fault) = refl

-- nothing was said before
said_with-none : (r : Result (List Statement) ScriptFault) → said_with [] r ≡ r
unfolding said_with
said_with-none (Ok later) = refl
said_with-none (Err fault) = refl

module _ (lines : List (Bor (List ℕ))) (i : ℕ) (whole : Result (List Statement) ScriptFault) (before : List Statement) (learned : Learned) where
  -- the other lines go on behind what was said
  abbrev pub GoesOn : Type 0
  GoesOn = whole ≡ said_with before (statements_from (i + 1) learned (map (λ x. x.now) (drop i lines)))

  -- what follows what this line says
  abbrev behind : Result (Option Statement) ScriptFault → Result (List Statement) ScriptFault
  behind r = r >>= λ said. statements_from (i + 1 + 1) (learned_behind said learned) (map (λ x. x.now) (drop (i + 1) lines)) >>= λ later. Ok (option_to_list said ++ later)

  -- the next line decides
  lines-next : (d : Bor (List ℕ)) (said : Result (Option Statement) ScriptFault) → i < length lines → GoesOn
      → line_statement (i + 1) learned (get_or lines i d).now ≡ said → whole ≡ said_with before (behind said)
  unfolding statements_from
  lines-next d said lt h e =
      h ∙ ap (λ l. said_with before (statements_from (i + 1) learned l)) (words-cons lines i d lt) ∙ ap (λ r. said_with before (behind r)) e

  -- a line at fault
  lines-fault : (d : Bor (List ℕ)) (fault : ScriptFault) → i < length lines → GoesOn
      → line_statement (i + 1) learned (get_or lines i d).now ≡ Err fault → whole ≡ Err fault
  unfolding said_with
  lines-fault d fault lt h e = lines-next d (Err fault) lt h e

  -- a line that isn't read
  pub lines-stop : (d : Bor (List ℕ)) (e : ReadScript) → i < length lines → GoesOn
      → Reads {T = Option Statement} (Err e) (line_statement (i + 1) learned (get_or lines i d).now) → Reads {T = List Statement} (Err e) whole
  lines-stop d (Fault fault) lt h e = lines-fault d fault lt h e
  lines-stop d OutOfMemory lt h e = tt

  -- no line more
  pub lines-end : length lines ≤ i → GoesOn → whole ≡ Ok before
  unfolding said_with statements_from
  lines-end le h = h ∙ ap (λ l. said_with before (statements_from (i + 1) learned l)) (words-end lines i le) ∙ ap Ok (append-nil before)

  -- a line more
  pub lines-step : (d : Bor (List ℕ)) (said : Option Statement) → i < length lines → GoesOn
      → line_statement (i + 1) learned (get_or lines i d).now ≡ Ok said
      → whole ≡ said_with (before ++ option_to_list said) (statements_from (i + 1 + 1) (learned_behind said learned) (map (λ x. x.now) (drop (i + 1) lines)))
  lines-step d said lt h e =
      lines-next d (Ok said) lt h e
      ∙ said_with-more before said (statements_from (i + 1 + 1) (learned_behind said learned) (map (λ x. x.now) (drop (i + 1) lines)))

-- the first line, with nothing before it
pub goes_on-start : (lines : List (Bor (List ℕ))) (before : List Statement) → before ≡ []
    → GoesOn lines 0 (statements_from 1 nothing_learned (map (λ x. x.now) lines)) before nothing_learned
unfolding said_with
goes_on-start lines before e =
    let whole = statements_from 1 nothing_learned (map (λ x. x.now) lines) in
    subst (λ b. GoesOn lines 0 whole b nothing_learned) (sym e) (sym (said_with-none whole))

-- as many lines as the text has
pub length-lines : (lines : List (Bor (List ℕ))) (octets : List ℕ) → map (λ x. x.now) lines ≡ lines_of octets → length lines ≡ length (lines_of octets)
length-lines lines octets e = sym (length-map lines (λ (x : Bor (List ℕ)). x.now)) ∙ ap length e

module _ (octets : List ℕ) where
  -- more octets than a script may have
  pub script-many_octets : 1048576 < length octets → script_of octets ≡ Err (record { line = 0; cause = TooLong })
  unfolding script_of
  script-many_octets h = grind (arith, common_steps)

  -- more lines than a script may have
  pub script-many_lines : 10000 < length (lines_of octets) → script_of octets ≡ Err (record { line = 0; cause = TooLong })
  unfolding script_of
  script-many_lines h = grind (arith, common_steps)

  -- the script is made of what its lines say
  script-short : length octets ≤ 1048576 → length (lines_of octets) ≤ 10000
      → script_of octets ≡ (statements_from 1 nothing_learned (lines_of octets) >>= λ statements. Ok (actors_of statements))
  unfolding script_of
  script-short o l = grind (arith, common_steps)

  module _ (borrowed : List (Bor (List ℕ))) (same : map (λ x. x.now) borrowed ≡ lines_of octets) (o : length octets ≤ 1048576) (l : length borrowed ≤ 10000) where
    short : script_of octets ≡ (statements_from 1 nothing_learned (map (λ x. x.now) borrowed) >>= λ statements. Ok (actors_of statements))
    short = script-short o (omega (arith, length-lines borrowed octets same)) ∙ ap (λ ls. statements_from 1 nothing_learned ls >>= λ statements. Ok (actors_of statements)) (sym same)

    -- the whole is read
    pub script-ok : (statements : List Statement) → statements_from 1 nothing_learned (map (λ x. x.now) borrowed) ≡ Ok statements → script_of octets ≡ Ok (actors_of statements)
    script-ok statements e = short ∙ ap (λ (r : Result (List Statement) ScriptFault). r >>= λ statements. Ok (actors_of statements)) e

    -- a fault of the lines is the script's
    pub script-fault : (e : ReadScript) (fault : ScriptFault) → Reads {T = List Statement} (Err e) (statements_from 1 nothing_learned (map (λ x. x.now) borrowed)) → e ≡ Fault fault
        → script_of octets ≡ Err fault
    script-fault e fault h f =
        let bad : statements_from 1 nothing_learned (map (λ x. x.now) borrowed) ≡ Err fault = subst (λ e. Reads {T = List Statement} (Err e) (statements_from 1 nothing_learned (map (λ x. x.now) borrowed))) f h in
        short ∙ ap (λ (r : Result (List Statement) ScriptFault). r >>= λ statements. Ok (actors_of statements)) bad
