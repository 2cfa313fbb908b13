pub mod SoundDocuments
