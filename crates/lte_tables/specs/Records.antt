-- The lines of the records: where each goes, its kind, its message, and its fields with their widths in octets.
use Rattle.std.specs.Prelude.{◌≡◌, ℕ, List, [], ◌∷◌, ◌++◌, map, codes}
use Rattle.std.specs.List.{flat_map}
use Rattle.rec_fields.specs.{Name.Name, Name.meaning, Name.field, Form.Body, Form.Of, Form.Text, Form.Form}
use Rattle.nas_rec.specs.Forms as nas
use Rattle.rrc_rec.specs.Forms as rrc
use Rattle.s1x2_rec.specs.Forms as core
use Rattle.lte_tables.specs.Numeral.{numeral}

-- a field behind a comma: its name and its octets
abbrev pub field_text : Name → List ℕ
field_text name = codes ", " ++ ((meaning name).words ++ (codes " " ++ numeral (field name).width))

-- a text to the end has no width
abbrev pub body_text : Body → List ℕ
body_text (Of names) = flat_map field_text names
body_text (Text most) = codes ", text 0"

-- A record: who takes it, its kind and its fields, as its form has them, and its message.
pub record Row : Type 0 where
  pub on : List ℕ
  pub kind : ℕ
  pub fields : List ℕ
  pub message : List ℕ

abbrev pub row : {A : Type 0} → List ℕ → Form A → List ℕ → Row
row on form message = record { on = on; kind = form.kind; fields = body_text form.body; message = message }

-- `record x2 50 X2 Handover Cancel, connection 4, source 1, attempt 4`
abbrev pub record_line : Row → List ℕ
record_line r =
    codes "record "
    ++ (r.on ++ (codes " " ++ (numeral r.kind ++ (codes " " ++ (r.message ++ (r.fields ++ codes "\n"))))))

-- NAS (TS 24.301) and RRC (TS 36.331)
abbrev pub nas_records : List Row
nas_records =
    row (codes "nas") nas.command (codes "Security Mode Command")
    ∷ row (codes "nas") nas.complete (codes "Security Mode Complete")
    ∷ row (codes "nas") nas.reject (codes "Security Mode Reject")
    ∷ row (codes "nas") nas.service_request (codes "Service Request")
    ∷ row (codes "nas") nas.any_text (codes "data")
    ∷ []

abbrev pub rrc_records : List Row
rrc_records =
    row (codes "rrc") rrc.command (codes "Security Mode Command")
    ∷ row (codes "rrc") rrc.complete (codes "Security Mode Complete")
    ∷ row (codes "rrc") rrc.reconfiguration (codes "Reconfiguration")
    ∷ row (codes "rrc") rrc.reconfigured (codes "Reconfiguration Complete")
    ∷ row (codes "rrc") rrc.any_text (codes "data")
    ∷ row (codes "rrc") rrc.key_change (codes "key change")
    ∷ []

-- S1AP (TS 36.413) and X2AP (TS 36.423)
abbrev pub core_records : List Row
core_records =
    row (codes "s1") core.initial_context (codes "Initial Context Setup Request")
    ∷ row (codes "s1") core.context_release (codes "UE Context Release Command")
    ∷ row (codes "s1") core.path_switch_request (codes "Path Switch Request")
    ∷ row (codes "s1") core.path_switch_answer (codes "Path Switch Request Acknowledge")
    ∷ row (codes "s1") core.handover_required (codes "Handover Required")
    ∷ row (codes "s1") core.handover_request (codes "Handover Request")
    ∷ row (codes "s1") core.handover_request_ack (codes "Handover Request Acknowledge")
    ∷ row (codes "s1") core.handover_command (codes "Handover Command")
    ∷ row (codes "s1") core.handover_notify (codes "Handover Notify")
    ∷ row (codes "s1") core.handover_cancel (codes "Handover Cancel")
    ∷ row (codes "x2") core.x2_request (codes "X2 Handover Request")
    ∷ row (codes "x2") core.x2_ack (codes "X2 Handover Request Acknowledge")
    ∷ row (codes "x2") core.x2_cancel (codes "X2 Handover Cancel")
    ∷ row (codes "x2") core.x2_release (codes "X2 UE Context Release")
    ∷ row (codes "s1") core.context_modification (codes "UE Context Modification Request")
    ∷ []

abbrev pub records : List Row
records = nas_records ++ rrc_records ++ core_records

unfoldable pub record_lines : List ℕ
record_lines = flat_map record_line records

-- the kinds of records that are read are those of these lines
abbrev pub kinds_of : List Row → List ℕ
kinds_of rows = map (λ r. r.kind) rows

abbrev pub kinds_read : {A : Type 0} → List (Form A) → List ℕ
kinds_read forms = map (λ form. form.kind) forms

pub record AreRead : Type 0 where
  pub nas : kinds_of nas_records ≡ kinds_read nas.nas_forms
  pub rrc : kinds_of rrc_records ≡ kinds_read rrc.rrc_forms
  pub core : kinds_of core_records ≡ kinds_read core.core_forms
