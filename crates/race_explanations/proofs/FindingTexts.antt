-- The text of a finding is what is told of its pair.
use Rattle.std.proofs.Common.{◌≡◌, ℕ, Bool, true, false, List, [], ◌++◌, length, map, codes, refl, sym, ap, ◌∙◌, append_assoc, append-nil}
use Rattle.std.specs.Global.{Vec}
use Rattle.std.proofs.lemmas.List.{length-map}
use Rattle.source_quotes.specs.Quotes.{counted}
use Rattle.race_pairs.specs.declared.race.Pair.{Pair}
use Rattle.race_pairs.specs.declared.encounter.Encounter.{Encounter}
use Rattle.race_pairs.specs.Places.{ArePlaces}
use Rattle.race_pairs.specs.PairKeys.{key_of}
use Rattle.race_explanations.specs.declared.finding.Finding.{Finding}
use Rattle.race_explanations.specs.Settings.{Origin, in_program, in_trace, Setting}
use Rattle.race_explanations.specs.Titles.{told_names, left_out, title_text}
use Rattle.race_explanations.specs.Messages.{message, earlier_text, refused_text, where_text}
use Rattle.race_explanations.specs.Cases.{course_of}
use Rattle.race_explanations.specs.Leads.{IsLeadOf}
use Rattle.race_explanations.specs.FindingTexts.{finding_with, finding_text}
use Rattle.model_histories.specs.declared.answer.Entry.{Entry}
use Rattle.race_pairs.specs.Encounters.{IsEncounter}
use Rattle.race_explanations.specs.Findings.{kind_text, name_text, body_text, help_text, own_text, IsOfTrace, IsFinding}

-- the accesses and where they part, told together
pub grouped : (setting : Setting) (pair : Pair) (places : List ℕ) (encounter : Encounter) (help : List ℕ) →
    title_text setting pair places ++ body_text setting pair encounter ++ help ++ codes "\n" ≡
    title_text setting pair places ++ earlier_text pair.lines.reason setting pair encounter ++ refused_text setting pair encounter ++
    (where_text pair.lines.reason setting pair encounter ++ help) ++ codes "\n"
grouped setting pair places encounter help =
    let title = title_text setting pair places in
    let earlier = earlier_text pair.lines.reason setting pair encounter in
    let refused = refused_text setting pair encounter in
    let apart = where_text pair.lines.reason setting pair encounter in
    let body : title ++ body_text setting pair encounter ≡ title ++ earlier ++ refused ++ apart =
    sym (append_assoc title (earlier ++ refused) apart) ∙ ap (λ t. t ++ apart) (sym (append_assoc title earlier refused)) in
    ap (λ t. t ++ codes "\n") (ap (λ t. t ++ help) body ∙ append_assoc (title ++ earlier ++ refused) apart help)

regrouped : (k n l s c z e r w h b : List ℕ) →
    k ++ n ++ l ++ s ++ c ++ z ++ (e ++ r ++ w) ++ h ++ b ≡ k ++ (n ++ l) ++ s ++ c ++ z ++ [] ++ e ++ r ++ (w ++ h) ++ b
regrouped k n l s c z e r w h b =
    let head = k ++ (n ++ l) ++ s ++ c ++ z in
    let same : k ++ n ++ l ++ s ++ c ++ z ≡ head = ap (λ t. t ++ s ++ c ++ z) (append_assoc k n l) in
    let body : head ++ (e ++ r ++ w) ≡ head ++ [] ++ e ++ r ++ w =
    sym (append_assoc head (e ++ r) w) ∙ ap (λ t. t ++ w) (sym (append_assoc head e r) ∙ ap (λ t. t ++ e ++ r) (sym (append-nil head))) in
    ap (λ t. t ++ (e ++ r ++ w) ++ h ++ b) same ∙ ap (λ t. t ++ b) (ap (λ t. t ++ h) body ∙ append_assoc (head ++ [] ++ e ++ r) w h)

said : (origin : Origin) (setting : Setting) (finding : Finding) (pair : Pair) (places : List ℕ) (encounter : Encounter) (told help : List ℕ) → setting.origin ≡ origin → IsOfTrace origin →
    finding.kind.items ≡ kind_text setting pair.lines.reason → finding.name.items ≡ name_text setting pair.lines.reason places →
    finding.body.items ≡ body_text setting pair encounter → length finding.names.keys ≡ length (told_names setting pair.lines.reason places) → finding.times ≡ pair.times →
    told ≡ help → finding_with finding told ≡ title_text setting pair places ++ earlier_text pair.lines.reason setting pair encounter ++ refused_text setting pair encounter ++
    (where_text pair.lines.reason setting pair encounter ++ help) ++ codes "\n"
said (in_program file source functions) setting finding pair places encounter told help is trace kind name body cells times same = absurd trace
said (in_trace notes) setting finding pair places encounter told help is trace kind name body cells times same =
    let reason = pair.lines.reason in
    ap (λ t. t ++ finding.name.items ++ left_out 1 (length finding.names.keys) ++ codes ", " ++ counted finding.times (codes "time") ++ codes "\n" ++ finding.body.items ++ told ++ codes "\n") kind ∙
    ap (λ t. kind_text setting reason ++ t ++ left_out 1 (length finding.names.keys) ++ codes ", " ++ counted finding.times (codes "time") ++ codes "\n" ++ finding.body.items ++ told ++ codes "\n") name ∙
    ap (λ n. kind_text setting reason ++ name_text setting reason places ++ left_out 1 n ++ codes ", " ++ counted finding.times (codes "time") ++ codes "\n" ++ finding.body.items ++ told ++ codes "\n") cells ∙
    ap (λ n. kind_text setting reason ++ name_text setting reason places ++ left_out 1 (length (told_names setting pair.lines.reason places)) ++ codes ", " ++ counted n (codes "time") ++ codes "\n" ++ finding.body.items ++ told ++ codes "\n") times ∙
    ap (λ t. kind_text setting reason ++ name_text setting reason places ++ left_out 1 (length (told_names setting pair.lines.reason places)) ++ codes ", " ++ counted pair.times (codes "time") ++ codes "\n" ++ t ++ told ++ codes "\n") body ∙
    ap (λ t. kind_text setting reason ++ name_text setting reason places ++ left_out 1 (length (told_names setting pair.lines.reason places)) ++ codes ", " ++ counted pair.times (codes "time") ++ codes "\n" ++ body_text setting pair encounter ++ t ++ codes "\n") same ∙
    regrouped (kind_text setting reason) (name_text setting reason places) (left_out 1 (length (told_names setting pair.lines.reason places))) (codes ", ") (counted pair.times (codes "time")) (codes "\n")
    (earlier_text reason setting pair encounter) (refused_text setting pair encounter) (where_text reason setting pair encounter) help (codes "\n") ∙
    rw is refl

-- by whether a sync is sure to order the two
text_by : (is_sure : Bool) (setting : Setting) (finding : Finding) (pair : Pair) (places : List ℕ) (encounter : Encounter) → IsOfTrace setting.origin →
    finding.kind.items ≡ kind_text setting pair.lines.reason → finding.name.items ≡ name_text setting pair.lines.reason places →
    finding.body.items ≡ body_text setting pair encounter → length finding.names.keys ≡ length (told_names setting pair.lines.reason places) → finding.times ≡ pair.times →
    finding.sure_help.items ≡ help_text setting pair encounter true → finding.open_help.items ≡ help_text setting pair encounter false →
    finding_text finding is_sure ≡ message setting pair places encounter is_sure
text_by true setting finding pair places encounter trace kind name body cells times sure still =
    said setting.origin setting finding pair places encounter finding.sure_help.items (help_text setting pair encounter true) refl trace kind name body cells times sure
text_by false setting finding pair places encounter trace kind name body cells times sure still =
    said setting.origin setting finding pair places encounter finding.open_help.items (help_text setting pair encounter false) refl trace kind name body cells times still

pub is_finding : (setting : Setting) (trace : ℕ) (entries : List Entry) (finding : Finding) (pair : Pair) (places : List ℕ) (encounter : Encounter) → IsOfTrace setting.origin →
    ArePlaces entries (key_of pair) places → IsEncounter entries pair encounter →
    finding.kind.items ≡ kind_text setting pair.lines.reason → finding.name.items ≡ name_text setting pair.lines.reason places →
    finding.body.items ≡ body_text setting pair encounter → finding.sure_help.items ≡ help_text setting pair encounter true →
    finding.open_help.items ≡ help_text setting pair encounter false → finding.own_help.items ≡ own_text setting pair encounter →
    IsLeadOf setting trace pair.spawn (course_of setting encounter) finding.lead →
    map (λ (name : Vec ℕ). name.items) finding.names.keys ≡ told_names setting pair.lines.reason places → finding.times ≡ pair.times →
    IsFinding setting trace entries pair finding
is_finding setting trace entries finding pair places encounter of_trace are is kind name body sure still own lead names times =
    let cells : length finding.names.keys ≡ length (told_names setting pair.lines.reason places) =
    sym (length-map finding.names.keys (λ (name : Vec ℕ). name.items)) ∙ ap length names in record {
      places = places;
      encounter = encounter;
      are_places = are;
      is_encounter = is;
      kind_is = kind;
      name_is = name;
      body_is = body;
      sure_is = sure;
      open_is = still;
      own_is = own;
      lead_is = lead;
      names_are = names;
      times_is = times;
      text_is = λ is_sure. text_by is_sure setting finding pair places encounter of_trace kind name body cells times sure still;
      member_is = said setting.origin setting finding pair places encounter finding.own_help.items (own_text setting pair encounter) refl of_trace kind name body cells times own;
    }
