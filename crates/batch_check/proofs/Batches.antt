-- Files that are checked one after another: what was done, and what the files that are left decide.
use Rattle.std.proofs.Common.{◌≡◌, ℕ, ◌+◌, ◌<◌, ◌⊎◌, inl, inr, nat_lt, Bool, true, false, Option, None, Some, IfSome, Result, Ok, Err, List, [], ◌∷◌, ◌++◌, length, map, take, drop, get_or, append_assoc, append-nil, suc, refl, sym, ◌∙◌, ap, subst, arith, add-one, if◌then◌else◌}
use Rattle.std.specs.Str.{is_utf8}
use Rattle.std.proofs.Math.Seq.{drop-cons}
use Rattle.std.proofs.lemmas.List.{map-append, take-map, drop-map}
use Rattle.base_core.specs.declared.limits.TheConstants.{TEXT_LIMIT}
use Rattle.base_core.specs.declared.writing.Halt.{Halt}
use Rattle.base_core.specs.declared.writing.Halt.TheVariants.{NoMem, SinkFailed}
use Rattle.base_core.specs.Sink.{appended, Begins}
use Rattle.base_core.proofs.Begun.{appended-appended, appended-nil}
use Rattle.doc_check.specs.declared.diagnostics.Report.{Report}
use Rattle.batch_check.specs.declared.digests.FileDigest.{FileDigest}
use Rattle.batch_check.specs.declared.endings.Ending.{Ending}
use Rattle.batch_check.specs.declared.endings.Ending.TheVariants as ending
use Rattle.batch_check.specs.declared.outcomes.FileReport.{FileReport}
use Rattle.batch_check.specs.declared.outcomes.Outcome.{Outcome}
use Rattle.batch_check.specs.declared.outcomes.Outcome.TheVariants.{Reported, NotRead, NotText}
use Rattle.batch_check.specs.declared.outcomes.Next.{Next}
use Rattle.batch_check.specs.declared.outcomes.Next.TheVariants as next
use Rattle.batch_check.specs.Reports.{joined, diag_lines, item_lines}
use Rattle.batch_check.specs.Outcome.{text_outcome, bytes_outcome, file_outcome}
use Rattle.batch_check.specs.Observers.{shown_more, AllShown, first_shown}
use Rattle.batch_check.specs.Batch.{Batch, with_clean, with_report, ended, goes_on, batch_from, batch_of, report_lines, report_digests, summaries, batch_bytes, IsWhole, IsPartBehind, ShownAtHalt, IsCut, IsPublished, IsBegun, IsHalfShown, IsUntouched, Brings}
use Rattle.batch_check.proofs.Pieces.{joined-append}

-- a report has at least one byte
abbrev pub HasLine : Outcome → Type 0
HasLine (Reported report) = (byte : ℕ) × (left : List ℕ) × (report.lines ≡ byte ∷ left)
HasLine NotRead = Unit {0}
HasLine NotText = Unit {0}

behind_all : (a b : List ℕ) (c : ℕ) (d : List ℕ) → (byte : ℕ) × (left : List ℕ) × (a ++ (b ++ c ∷ d) ≡ byte ∷ left)
behind_all [] [] c d = (c, d, refl)
behind_all [] (x ∷ b) c d = (x, b ++ c ∷ d, refl)
behind_all (x ∷ a) b c d = (x, a ++ (b ++ c ∷ d), refl)

text_line : (check : List ℕ → Report) (name text : List ℕ) → HasLine (text_outcome check name text)
text_line check name text = behind_all (diag_lines name text (check text).diags ++ item_lines name (check text).outline) name _ _

line_by : (t : Bool) (check : List ℕ → Report) (name bytes : List ℕ) → is_utf8 bytes ≡ t → HasLine (if t then text_outcome check name bytes else NotText)
line_by true check name bytes e = text_line check name bytes
line_by false check name bytes e = tt

-- a file that is reported has lines
line_of : (check : List ℕ → Report) (name bytes : List ℕ) (t : Bool) → nat_lt TEXT_LIMIT (length bytes) ≡ t → HasLine (if t then NotText else bytes_outcome check name bytes)
line_of check name bytes true e = tt
line_of check name bytes false e = line_by (is_utf8 bytes) check name bytes refl

pub has_line : (check : List ℕ → Report) (name : List ℕ) (content : Option (List ℕ)) → HasLine (file_outcome check name content)
has_line check name None = tt
has_line check name (Some bytes) = line_of check name bytes (nat_lt TEXT_LIMIT (length bytes)) refl

-- what is left of the files decides the rest: reports behind those that were made
pub record Follows (outcome : List ℕ → Outcome) (done : Batch) (names : List (List ℕ)) : Type 0 where
  pub others : List FileReport
  pub reports : (batch_from outcome done names).reports ≡ done.reports ++ others
  pub nothing : (summed : List ℕ) → IsPartBehind others summed []

follows_by : (outcome : List ℕ → Outcome) (done : Batch) (name : List ℕ) (names : List (List ℕ)) (o : Outcome) → outcome name ≡ o → HasLine o → ((d : Batch) → Follows outcome d names) → Follows outcome done (name ∷ names)
follows_by outcome done name names (Reported report) e line more =
    let f = more (with_report done report) in
    record {
      others = report ∷ f.others;
      reports = ap (λ o. (goes_on done (λ d. batch_from outcome d names) o).reports) e ∙ f.reports ∙ append_assoc done.reports (report ∷ []) f.others;
      nothing = λ summed. line;
    }
follows_by outcome done name names NotRead e line more = record {
  others = [];
  reports = ap (λ o. (goes_on done (λ d. batch_from outcome d names) o).reports) e ∙ sym (append-nil done.reports);
  nothing = λ summed. (summed, refl);
}
follows_by outcome done name names NotText e line more = record {
  others = [];
  reports = ap (λ o. (goes_on done (λ d. batch_from outcome d names) o).reports) e ∙ sym (append-nil done.reports);
  nothing = λ summed. (summed, refl);
}

follows : (outcome : List ℕ → Outcome) → ((name : List ℕ) → HasLine (outcome name)) → (names : List (List ℕ)) (done : Batch) → Follows outcome done names
follows outcome lines [] done = record { others = []; reports = sym (append-nil done.reports); nothing = λ summed. (summed, refl) }
follows outcome lines (name ∷ names) done = follows_by outcome done name names (outcome name) refl (lines name) (λ d. follows outcome lines names d)

-- so far: the reports that were made were written and shown, and what is left decides the rest
pub record SoFar (whole : Batch) (outcome : List ℕ → Outcome) (left : List (List ℕ)) (end : Ending) (old now : Option (List ℕ)) (before after : List (List FileDigest)) : Type 0 where
  pub done : List FileReport
  pub goes : batch_from outcome (record { reports = done; ending = end }) left ≡ whole
  pub wrote : now ≡ appended old (report_lines done)
  pub shown : AllShown (report_digests done) before after

lines_snoc : (done : List FileReport) (report : FileReport) → report_lines (done ++ report ∷ []) ≡ report_lines done ++ report.lines
lines_snoc done report =
    ap joined (map-append (λ r. r.lines) done (report ∷ []))
    ∙ joined-append (map (λ r. r.lines) done) (report.lines ∷ [])
    ∙ ap (λ l. report_lines done ++ l) (append-nil report.lines)

digests_snoc : (done : List FileReport) (report : FileReport) → report_digests (done ++ report ∷ []) ≡ report_digests done ++ report.digest ∷ []
digests_snoc done report = map-append (λ r. r.digest) done (report ∷ [])

none_shown : (before : List (List FileDigest)) → before ≡ map (shown_more []) before
none_shown [] = refl
none_shown (x ∷ xs) = ap (λ y. y ∷ xs) (sym (append-nil x)) ∙ ap (λ ys. (x ++ []) ∷ ys) (none_shown xs)

more_more : (a b : List FileDigest) (before : List (List FileDigest)) → map (shown_more b) (map (shown_more a) before) ≡ map (shown_more (a ++ b)) before
more_more a b [] = refl
more_more a b (x ∷ xs) = ap (λ y. y ∷ map (shown_more b) (map (shown_more a) xs)) (append_assoc x a b) ∙ ap (λ ys. (x ++ (a ++ b)) ∷ ys) (more_more a b xs)

wrote_then : (old now new : Option (List ℕ)) (done piece : List ℕ) → now ≡ appended old done → new ≡ appended now piece → new ≡ appended old (done ++ piece)
wrote_then old now new done piece e f = f ∙ ap (λ told. appended told piece) e ∙ appended-appended old done piece

-- nothing was done yet
pub sofar_first : (outcome : List ℕ → Outcome) (names : List (List ℕ)) (told : Option (List ℕ)) (before : List (List FileDigest)) → SoFar (batch_of outcome names) outcome names ending.Clean told told before before
sofar_first outcome names told before = record { done = []; goes = refl; wrote = sym (appended-nil told); shown = none_shown before }

module _ (whole : Batch) (outcome : List ℕ → Outcome) (names : List (List ℕ)) (i : ℕ) (d name : List ℕ) (end : Ending) (old now new : Option (List ℕ)) (before mid after : List (List FileDigest)) (lt : i < length names) (is : name ≡ get_or names i d) (s : SoFar whole outcome (drop i names) end old now before mid) where
  -- the file there decides how it goes on
  goes_at : goes_on (record { reports = s.done; ending = end }) (λ b. batch_from outcome b (drop (suc i) names)) (outcome name) ≡ whole
  goes_at =
      ap (λ n. goes_on (record { reports = s.done; ending = end }) (λ b. batch_from outcome b (drop (suc i) names)) (outcome n)) is
      ∙ sym (ap (batch_from outcome (record { reports = s.done; ending = end })) (drop-cons names i d lt))
      ∙ s.goes

  -- it is reported, and the others follow
  goes_behind : (report : FileReport) → outcome name ≡ Reported report → batch_from outcome (with_report (record { reports = s.done; ending = end }) report) (drop (suc i) names) ≡ whole
  goes_behind report e = sym (ap (goes_on (record { reports = s.done; ending = end }) (λ b. batch_from outcome b (drop (suc i) names))) e) ∙ goes_at

  sofar_by : (clean : Bool) → IsPublished (outcome name) clean now new mid after → SoFar whole outcome (drop (i + 1) names) (with_clean end clean) old new before after
  sofar_by clean p = record {
    done = s.done ++ p.report ∷ [];
    goes = ap (λ n. batch_from outcome (record { reports = s.done ++ p.report ∷ []; ending = with_clean end clean }) (drop n names)) (add-one i)
        ∙ ap (λ c. batch_from outcome (record { reports = s.done ++ p.report ∷ []; ending = with_clean end c }) (drop (suc i) names)) (sym p.cleans)
        ∙ goes_behind p.report p.reports;
    wrote = wrote_then old now new (report_lines s.done) p.report.lines s.wrote p.wrote ∙ ap (appended old) (sym (lines_snoc s.done p.report));
    shown = p.shown ∙ ap (map (shown_more (p.report.digest ∷ []))) s.shown ∙ more_more (report_digests s.done) (p.report.digest ∷ []) before
        ∙ ap (λ ds. map (shown_more ds) before) (sym (digests_snoc s.done p.report));
  }

  stops_as : (told : List (List ℕ)) (last : Ending) → summaries last told ≡ [] → ended (record { reports = s.done; ending = end }) last ≡ whole → IsUntouched now new mid after → IsWhole whole last old new told before after
  stops_as told last none e u = record {
    ends = ap (λ b. b.ending) e;
    wrote = u.wrote ∙ s.wrote ∙ ap (appended old) (sym (ap (λ l. report_lines s.done ++ l) none ∙ append-nil (report_lines s.done))) ∙ ap (λ b. appended old (batch_bytes b told)) e;
    shown = u.shown ∙ s.shown ∙ ap (λ b. map (shown_more (report_digests b.reports)) before) e;
  }

  -- it isn't read
  stops_unread : (told : List (List ℕ)) → (outcome name ≡ NotRead) × IsUntouched now new mid after → IsWhole whole ending.NotRead old new told before after
  stops_unread told h = stops_as told ending.NotRead refl (sym (ap (goes_on (record { reports = s.done; ending = end }) (λ b. batch_from outcome b (drop (suc i) names))) h.0) ∙ goes_at) h.1

  -- it is no text
  stops_no_text : (told : List (List ℕ)) → (outcome name ≡ NotText) × IsUntouched now new mid after → IsWhole whole ending.NotText old new told before after
  stops_no_text told h = stops_as told ending.NotText refl (sym (ap (goes_on (record { reports = s.done; ending = end }) (λ b. batch_from outcome b (drop (suc i) names))) h.0) ∙ goes_at) h.1

  module _ (lines : (n : List ℕ) → HasLine (outcome n)) (told : List (List ℕ)) where
    cut_before : IsUntouched now new mid after → IsCut whole NoMem old new told before after
    cut_before u =
        let f = follows outcome lines (drop i names) (record { reports = s.done; ending = end }) in
        record {
          whole = s.done;
          others = f.others;
          reports = ap (λ b. b.reports) (sym s.goes) ∙ f.reports;
          part = [];
          piece = f.nothing (summaries whole.ending told);
          wrote = u.wrote ∙ s.wrote ∙ ap (appended old) (sym (append-nil (report_lines s.done)));
          shown = record {
            earlier = report_digests s.done;
            last = [];
            parts = sym (append-nil (report_digests s.done));
            at_most_one = omega arith;
            first = 0;
            shown = u.shown ∙ s.shown;
          };
        }

    cut_shown : IsHalfShown (outcome name) now new mid after → IsCut whole NoMem old new told before after
    cut_shown h =
        let ds = report_digests s.done in
        let next = h.report.digest ∷ [] in
        let f = follows outcome lines (drop (suc i) names) (with_report (record { reports = s.done; ending = end }) h.report) in
        record {
          whole = s.done ++ h.report ∷ [];
          others = f.others;
          reports = ap (λ b. b.reports) (sym (goes_behind h.report h.reports)) ∙ f.reports;
          part = [];
          piece = f.nothing (summaries whole.ending told);
          wrote = wrote_then old now new (report_lines s.done) h.report.lines s.wrote h.wrote
              ∙ ap (appended old) (sym (append-nil (report_lines (s.done ++ h.report ∷ [])) ∙ lines_snoc s.done h.report));
          shown = record {
            earlier = ds;
            last = next;
            parts = digests_snoc s.done h.report;
            at_most_one = omega arith;
            first = h.first;
            shown = h.shown ∙ ap (first_shown h.first next) s.shown
                ∙ ap (λ xs. map (shown_more next) xs ++ drop h.first (map (shown_more ds) before)) (take-map (shown_more ds) h.first before)
                ∙ ap (λ xs. map (shown_more next) (map (shown_more ds) (take h.first before)) ++ xs) (drop-map (shown_more ds) h.first before)
                ∙ ap (λ xs. xs ++ map (shown_more ds) (drop h.first before)) (more_more ds next (take h.first before))
                ∙ ap (λ all. map (shown_more all) (take h.first before) ++ map (shown_more ds) (drop h.first before)) (sym (digests_snoc s.done h.report));
          };
        }

    -- memory was wanted
    cut_memory : IsUntouched now new mid after ⊎ IsHalfShown (outcome name) now new mid after → IsCut whole NoMem old new told before after
    cut_memory (inl u) = cut_before u
    cut_memory (inr h) = cut_shown h

    -- a put failed
    cut_sink : IsBegun (outcome name) now new mid after → IsCut whole SinkFailed old new told before after
    cut_sink h =
        let f = follows outcome lines (drop (suc i) names) (with_report (record { reports = s.done; ending = end }) h.report) in
        record {
          whole = s.done;
          others = h.report ∷ f.others;
          reports = ap (λ b. b.reports) (sym (goes_behind h.report h.reports)) ∙ f.reports ∙ append_assoc s.done (h.report ∷ []) f.others;
          part = h.wrote.part;
          piece = (h.wrote.byte, h.wrote.left, h.wrote.lines);
          wrote = wrote_then old now new (report_lines s.done) h.wrote.part s.wrote h.wrote.wrote;
          shown = h.shown ∙ s.shown;
        }

  module _ (result : Result Next Halt) (b : Brings (outcome name) result now new mid after) where
    as_is : (r : Result Next Halt) → result ≡ r → Brings (outcome name) r now new mid after
    as_is r e = subst (λ r. Brings (outcome name) r now new mid after) e b

    pub sofar_next : (clean : Bool) (later : Ending) → later ≡ with_clean end clean → result ≡ Ok (next.Reported clean) → SoFar whole outcome (drop (i + 1) names) later old new before after
    sofar_next clean later h e = subst (λ l. SoFar whole outcome (drop (i + 1) names) l old new before after) (sym h) (sofar_by clean (as_is (Ok (next.Reported clean)) e))

    pub unread : (told : List (List ℕ)) → result ≡ Ok next.NotRead → IsWhole whole ending.NotRead old new told before after
    unread told e = stops_unread told (as_is (Ok next.NotRead) e)

    pub no_text : (told : List (List ℕ)) → result ≡ Ok next.NotText → IsWhole whole ending.NotText old new told before after
    no_text told e = stops_no_text told (as_is (Ok next.NotText) e)

    pub out_of_memory : ((n : List ℕ) → HasLine (outcome n)) → (told : List (List ℕ)) → result ≡ Err NoMem → IsCut whole NoMem old new told before after
    out_of_memory lines told e = cut_memory lines told (as_is (Err NoMem) e)

    pub sink_failed : ((n : List ℕ) → HasLine (outcome n)) → (told : List (List ℕ)) → result ≡ Err SinkFailed → IsCut whole SinkFailed old new told before after
    sink_failed lines told e = cut_sink lines told (as_is (Err SinkFailed) e)

-- an ending behind which the summaries come
abbrev pub IsReporting : Ending → Type 0
IsReporting ending.Clean = Unit {0}
IsReporting ending.Unclean = Unit {0}
IsReporting ending.NotRead = ⊥
IsReporting ending.NotText = ⊥

pub reports_on : (end : Ending) (clean : Bool) → IsReporting end → IsReporting (with_clean end clean)
reports_on end true r = r
reports_on end false r = tt

summed : (end : Ending) (told : List (List ℕ)) → IsReporting end → summaries end told ≡ joined told
summed ending.Clean told r = refl
summed ending.Unclean told r = refl
summed ending.NotRead told r = absurd r
summed ending.NotText told r = absurd r

shown_at : (why : Halt) (digests : List FileDigest) (before after : List (List FileDigest)) → AllShown digests before after → ShownAtHalt why digests before after
shown_at SinkFailed digests before after h = h
shown_at NoMem digests before after h = record { earlier = digests; last = []; parts = sym (append-nil digests); at_most_one = omega arith; first = 0; shown = h }

module _ (whole : Batch) (outcome : List ℕ → Outcome) (left : List (List ℕ)) (end : Ending) (old now new : Option (List ℕ)) (told : List (List ℕ)) (before after : List (List FileDigest)) (none : left ≡ []) (reporting : IsReporting end) (s : SoFar whole outcome left end old now before after) where
  all_done : record { reports = s.done; ending = end } ≡ whole
  all_done = sym (ap (batch_from outcome (record { reports = s.done; ending = end })) none) ∙ s.goes

  -- all files were reported, and the summaries written
  pub ends_whole : new ≡ appended now (joined told) → IsWhole whole end old new told before after
  ends_whole e = record {
    ends = ap (λ b. b.ending) all_done;
    wrote = wrote_then old now new (report_lines s.done) (joined told) s.wrote e
        ∙ ap (λ l. appended old (report_lines s.done ++ l)) (sym (summed end told reporting))
        ∙ ap (λ b. appended old (batch_bytes b told)) all_done;
    shown = s.shown ∙ ap (λ b. map (shown_more (report_digests b.reports)) before) all_done;
  }

  -- the writing of the summaries was broken off
  pub ends_cut : (why : Halt) → Begins now new (joined told) → IsCut whole why old new told before after
  ends_cut why h = record {
    whole = s.done;
    others = [];
    reports = ap (λ b. b.reports) (sym all_done) ∙ sym (append-nil s.done);
    part = h.begun;
    piece = (h.left, ap (λ b. summaries b.ending told) (sym all_done) ∙ summed end told reporting ∙ h.parts);
    wrote = wrote_then old now new (report_lines s.done) h.begun s.wrote h.grown;
    shown = shown_at why (report_digests s.done) before after s.shown;
  }

-- what follows from facts of what is told
pub told_both : {A : Type 0} (content shown : Option A) (P Q R : A → Type 0) → shown ≡ content → IfSome content P → IfSome shown Q → ((a : A) → P a → Q a → R a) → IfSome content R
told_both None shown P Q R e p q f = tt
told_both (Some a) shown P Q R e p q f = f a p (subst (λ c. IfSome c Q) e q)

pub told_one : {A : Type 0} (content : Option A) (P R : A → Type 0) → IfSome content P → ((a : A) → P a → R a) → IfSome content R
told_one None P R p f = tt
told_one (Some a) P R p f = f a p

pub told_any : {A : Type 0} (content : Option A) (R : A → Type 0) → ((a : A) → R a) → IfSome content R
told_any None R f = tt
told_any (Some a) R f = f a
