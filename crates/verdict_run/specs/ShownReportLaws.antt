-- A report of the bytes that were read may be shown.
use Rattle.std.specs.Prelude.{List, ◌++◌, ◌≡◌, ℕ, ◌≤◌, ◌<◌, leb, length, take}
use Rattle.std.proofs.Common.{sym, ap, subst, ◌∙◌, arith, length-append, take_all, length-take-le}
use Rattle.std.proofs.lemmas.Bool.{lt-leb}
use Rattle.spec_text.specs.Reading.{read}
use Rattle.spec_text.specs.Reading.Outcome.{refused}
use Rattle.spec_report.specs.Report.{Report}
use Rattle.spec_report.specs.Report.Report.{refusal, unfolding_refusal, robust, danger}
use Rattle.stdin.specs.declared.Input.{Input}
use Rattle.stdin.specs.declared.Input.TheVariants.{Ended, Full, Failed}
use Rattle.stdin.specs.Ends.{Ends}
use Rattle.verdict_run.specs.ShownReport.{Came, bytes_read, Shows}

-- texts that read alike have the same report
same_reading : {text other bytes : List ℕ} → read other ≡ read text → Report text bytes → Report other bytes
same_reading e (refusal number line is_read) = refusal number line (e ∙ is_read)
same_reading e (unfolding_refusal lines is_read many) = unfolding_refusal lines (e ∙ is_read) many
same_reading e (robust lines is_read few none_dangerous) = robust lines (e ∙ is_read) few none_dangerous
same_reading e (danger lines is_read few walk first) = danger lines (e ∙ is_read) few walk first

-- a text that is too long is refused by 1
too_long : (text : List ℕ) → 32768 < length text → read text ≡ refused 1 0
unfolding read
too_long text h = rw (lt-leb (length text) 32768 h, read)

-- so is whatever begins with one
longer : (text rest : List ℕ) {bytes : List ℕ} → 32768 < length text → Report text bytes → Report (text ++ rest) bytes
longer text rest h = same_reading (too_long (text ++ rest) (omega (arith, length-append text rest)) ∙ sym (too_long text h))

-- the report of the bytes read, of an area that is longer than any accepted text
pub report_shown : {area bytes : List ℕ} (r : Input) → 32768 < length area → Ends (length area) r → Came r → Report (take (bytes_read r) area) bytes
    → Shows area r bytes
report_shown {area} {bytes} (Ended t) h e c report = record { ends = e; report = report }
report_shown {area} {bytes} (Full t) h e c report = record {
  ends = e;
  report = λ rest. longer area rest h (subst (λ (text : List ℕ). Report text bytes) (take_all t.count area (omega (arith, e.1))) report);
}
report_shown {area} {bytes} (Failed t) h e c report = absurd c

-- the bytes that were read lie within the area
pub read_fits : {size : ℕ} (r : Input) → Ends size r → Came r → bytes_read r ≤ size
read_fits (Ended t) e c = omega (arith, e.2)
read_fits (Full t) e c = omega (arith, e.1)
read_fits (Failed t) e c = absurd c

-- the first n bytes are n bytes
pub first_bytes : {n : ℕ} (bytes : List ℕ) → n ≤ length bytes → n ≡ length (take n bytes)
first_bytes {n} bytes h = sym (length-take-le n bytes h)

-- what may be shown was read without a failure
pub shown_came : {area bytes : List ℕ} (r : Input) → Shows area r bytes → Came r
shown_came (Ended t) s = tt
shown_came (Full t) s = tt
shown_came (Failed t) s = absurd s.report
