-- The names of messages, as in S1AP, X2AP, RRC and NAS.
use Rattle.std.specs.Prelude.{ℕ, List, codes}
use Rattle.item_faults.specs.declared.messages.Message.{Message}
use Rattle.item_faults.specs.declared.messages.Message.TheVariants as message

abbrev pub message_name : Message → List ℕ
message_name message.NasSecurityModeCommand = codes "NAS Security Mode Command"
message_name message.NasSecurityModeComplete = codes "NAS Security Mode Complete"
message_name message.NasSecurityModeReject = codes "NAS Security Mode Reject"
message_name message.ServiceRequest = codes "Service Request"
message_name message.NasText = codes "NAS text"
message_name message.InitialContextSetupRequest = codes "Initial Context Setup Request"
message_name message.UeContextModificationRequest = codes "UE Context Modification Request"
message_name message.UeContextReleaseCommand = codes "UE Context Release Command"
message_name message.RrcSecurityModeCommand = codes "RRC Security Mode Command"
message_name message.RrcSecurityModeComplete = codes "RRC Security Mode Complete"
message_name message.RrcReconfiguration = codes "RRC Reconfiguration"
message_name message.RrcReconfigurationComplete = codes "RRC Reconfiguration Complete"
message_name message.RrcText = codes "RRC text"
message_name message.UserPacket = codes "user packet"
message_name message.X2HandoverRequest = codes "X2 Handover Request"
message_name message.X2HandoverRequestAcknowledge = codes "X2 Handover Request Acknowledge"
message_name message.X2HandoverCancel = codes "X2 Handover Cancel"
message_name message.X2UeContextRelease = codes "X2 UE Context Release"
message_name message.PathSwitchRequest = codes "Path Switch Request"
message_name message.PathSwitchRequestAcknowledge = codes "Path Switch Request Acknowledge"
message_name message.HandoverRequired = codes "Handover Required"
message_name message.HandoverRequest = codes "Handover Request"
message_name message.HandoverRequestAcknowledge = codes "Handover Request Acknowledge"
message_name message.HandoverCommand = codes "Handover Command"
message_name message.HandoverNotify = codes "Handover Notify"
message_name message.HandoverCancel = codes "Handover Cancel"
message_name message.Unnamed = codes "record"
